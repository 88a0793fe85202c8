use Rattle.std.proofs.Common.{◌≡◌, ◌∙◌, ap, arith, take, min, length}
use Rattle.sq_base.proofs.FoldingLemmas.{front_whole, front_cut}
use Rattle.sq_base.proofs.folding.whole_front.Goals as goal

pub returns-in-Ok : goal.returns-in-Ok
returns-in-Ok c =
    let n = c.min.result in
    let text = c.args.text.now in
    let bytes = c.as_bytes-bytes.result.now in
    let cases = c.in-Ok.ensures.cases in
    let counts : n ≡ min 63 (length text) = omega (arith, c.min.ensures, c.as_bytes-bytes.ensures.len) in
    front_whole 63 n text (take n bytes) c.in-Ok.front.now counts (ap (take n) c.as_bytes-bytes.ensures.value) cases.0 cases.1

pub returns-in-Err : goal.returns-in-Err
returns-in-Err c =
    let n = c.min.result in
    let text = c.args.text.now in
    let bytes = c.as_bytes-bytes.result.now in
    let cases = rw c.unwrap.ensures at c.from_utf8-in-Err.ensures.cases in
    let counts : n ≡ min 63 (length text) = omega (arith, c.min.ensures, c.as_bytes-bytes.ensures.len) in
    front_cut 63 n c.valid_up_to.result text (take n bytes) c.unwrap.result.now counts (ap (take n) c.as_bytes-bytes.ensures.value) (c.valid_up_to.ensures ∙ c.in-Err.ensures.valid_len) cases.0
