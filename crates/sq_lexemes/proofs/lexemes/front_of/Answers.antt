use Rattle.std.proofs.Common.{◌≡◌, ◌∙◌, refl, arith, take, min, length}
use Rattle.sq_lexemes.proofs.FrontLemmas.{front_whole, front_cut}
use Rattle.sq_lexemes.proofs.lexemes.front_of.Goals as goal

pub returns-in-Ok : goal.returns-in-Ok
returns-in-Ok c =
    let n = c.min.result in
    let bytes = c.args.bytes.now in
    let cases = c.in-Ok.ensures.cases in
    let counts : n ≡ min 63 (length bytes) = omega (arith, c.min.ensures) in
    front_whole 63 n bytes (take n bytes) c.in-Ok.front.now counts refl cases.0 cases.1

pub returns-in-Err : goal.returns-in-Err
returns-in-Err c =
    let n = c.min.result in
    let bytes = c.args.bytes.now in
    let cases = rw c.unwrap.ensures at c.from_utf8-in-Err.ensures.cases in
    let counts : n ≡ min 63 (length bytes) = omega (arith, c.min.ensures) in
    front_cut 63 n c.valid_up_to.result bytes (take n bytes) c.unwrap.result.now counts refl (c.valid_up_to.ensures ∙ c.in-Err.ensures.valid_len) cases.0
