-- How what is found one by one comes to what is found of all.
use Rattle.std.proofs.Common.{◌≡◌, ◌<◌, ℕ, ◌+◌, List, ◌∷◌, ◌++◌, length, get_or, drop, Result, Ok, Err, sym, ap, ◌∙◌}
use Rattle.std.proofs.lemmas.List.{drop_more}
use Rattle.sq_base.specs.declared.refusal.Refusal.{Refusal}
use Rattle.sq_catalog.specs.declared.table.Column.{Column}

-- columns, and those that come behind them
abbrev pub behind : List Column → Result (List Column) Refusal → Result (List Column) Refusal
behind columns (Ok more) = Ok (columns ++ more)
behind columns (Err refusal) = Err refusal

-- the next item of a slice
pub next_item : {A : Type 0} (xs : List A) (at : ℕ) (x : A) → at < length xs → x ≡ get_or xs at x → drop at xs ≡ x ∷ drop (at + 1) xs
next_item xs at x within is = drop_more xs at x within ∙ ap (λ y. y ∷ drop (at + 1) xs) (sym is)
