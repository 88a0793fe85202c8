-- Runs, token by token.
use Rattle.std.proofs.Common.{◌≡◌, ℕ, suc, true, false, ◌&&◌, List, [], ◌∷◌, ◌++◌, length, None, Some, refl, sym, ap, ◌∙◌, append_assoc, arith}
use Rattle.std.proofs.lemmas.List.{append-nil}
use Rattle.sq_syntax.specs.declared.symbol.Lexeme.{Lexeme}
use Rattle.sq_syntax.specs.declared.symbol.Reading.{Reading}
use Rattle.sq_syntax.specs.Facts.{Stream}
use Rattle.sq_syntax.specs.Pieces.{is_empty}
use Rattle.sq_syntax.specs.Runs as runs
use Rattle.sq_grammar.specs.Ahead.{Lexemes}
use Rattle.sq_grammar.specs.Reading.{Outcome, after}
use Rattle.sq_grammar.specs.Schemas.{before, run_from}
use Rattle.sq_parse_ddl.specs.declared.runs.Bracket.{Bracket}
use Rattle.sq_parse_ddl.specs.declared.runs.Stop.{Stop}
use Rattle.sq_parse_ddl.specs.Runs.{as_bracket, ends_run, going_on, innermost_first, is_over, joined, rest_of_run, run_behind, stops}

-- ---- brackets that are open

pub pushed : (bs : List Bracket) (x : Bracket) → innermost_first (bs ++ x ∷ []) ≡ as_bracket x ∷ innermost_first bs
pushed [] x = refl
pushed (y ∷ bs) x = ap (λ bs. bs ++ as_bracket y ∷ []) (pushed bs x)

pub none_open : (bs : List Bracket) → length bs ≡ 0 → innermost_first bs ≡ []
none_open [] h = refl
none_open (x ∷ bs) h = absurd (omega arith)

none_behind : (bs : List runs.Bracket) (b : runs.Bracket) → is_empty (bs ++ b ∷ []) ≡ false
none_behind [] b = refl
none_behind (x ∷ bs) b = refl

same_empty : (bs : List Bracket) → is_empty (innermost_first bs) ≡ is_empty bs
same_empty [] = refl
same_empty (x ∷ bs) = none_behind (innermost_first bs) (as_bracket x)

-- ---- one token

joined_more : (found : List Reading) (x : Reading) (r : Outcome (List Reading)) → joined found (before x r) ≡ joined (found ++ x ∷ []) r
joined_more found x None = refl
joined_more found x (Some (xs, now)) = ap (λ (ys : List Reading). Some (ys, now)) (sym (append_assoc found (x ∷ []) xs))

pub taken : (stop : Stop) (bs next_bs : List Bracket) (found more : List Reading) (now next : Stream) (x : Lexeme) → now.tokens ≡ x ∷ next.tokens → next ≡ after now.at next.tokens
    → runs.behind x.reading (innermost_first bs) ≡ Some (innermost_first next_bs) → more ≡ found ++ x.reading ∷ [] → going_on stop bs found now ≡ rest_of_run stop next_bs more next
taken stop bs next_bs found more now next x h counted b m =
    let one : going_on stop bs found now ≡ rest_of_run stop next_bs (found ++ x.reading ∷ []) (after now.at next.tokens) =
    rw (h, b) (joined_more found x.reading (run_from (stops stop) (suc now.at) (Some (innermost_first next_bs)) next.tokens)) in
    one ∙ ap (λ s. rest_of_run stop next_bs (found ++ x.reading ∷ []) s) (sym counted) ∙ ap (λ (xs : List Reading). rest_of_run stop next_bs xs next) (sym m)

pub none_left : (stop : Stop) (bs : List Bracket) (found : List Reading) (now : Stream) → now.tokens ≡ [] → going_on stop bs found now ≡ None
none_left stop bs found now h = rw h refl

pub unbalanced : (stop : Stop) (bs : List Bracket) (found : List Reading) (now : Stream) (x : Lexeme) (rest : Lexemes) → now.tokens ≡ x ∷ rest → runs.behind x.reading (innermost_first bs) ≡ None → going_on stop bs found now ≡ None
unbalanced stop bs found now x rest h b = rw (h, b) refl

-- ---- the end of a run

ends_here : (stop : Stop) (n : ℕ) (tokens : Lexemes) → ends_run stop tokens ≡ true → run_from (stops stop) n (Some []) tokens ≡ Some ([], record { at = n; tokens = tokens })
ends_here stop n [] h = refl
ends_here stop n (x ∷ rest) h = rw h refl

goes_on : (stop : Stop) (n : ℕ) (bs : List Bracket) (tokens : Lexemes) → (is_empty bs && ends_run stop tokens) ≡ false → run_from (stops stop) n (Some (innermost_first bs)) tokens ≡ run_behind (stops stop) (innermost_first bs) n tokens
goes_on stop n [] [] h = absurd cc
goes_on stop n (b ∷ bs) [] h = rw (same_empty (b ∷ bs)) refl
goes_on stop n bs (x ∷ rest) h =
    let same : (is_empty (innermost_first bs) && ends_run stop (x ∷ rest)) ≡ false = ap (λ e. e && ends_run stop (x ∷ rest)) (same_empty bs) ∙ h in
    rw same refl

pub over : (stop : Stop) (bs : List Bracket) (found : List Reading) (now : Stream) → is_over stop bs now ≡ true → rest_of_run stop bs found now ≡ Some (found, now)
over stop [] found now h = rw (ends_here stop now.at now.tokens h) (ap (λ (xs : List Reading). Some (xs, now)) (append-nil found))
over stop (b ∷ bs) found now h = absurd cc

pub not_over : (stop : Stop) (bs : List Bracket) (found : List Reading) (now : Stream) → is_over stop bs now ≡ false → rest_of_run stop bs found now ≡ going_on stop bs found now
not_over stop bs found now h = ap (joined found) (goes_on stop now.at bs now.tokens h)
