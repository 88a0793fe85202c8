-- Groups one after another are read again.
use Rattle.std.proofs.Common.{◌≡◌, ℕ, zero, suc, ◌<◌, ◌≤◌, Bool, false, cond, List, [], ◌∷◌, ◌++◌, codes, length, Ok, ap, sym, subst, ◌∙◌, append-nil, length-append, arith}
use Rattle.std.specs.List.{flat_map, AllByRecursion}
use Rattle.std.proofs.lemmas.Bool.Decides.{nat_tests}
use Rattle.sq_reader.specs.Parts.{Text, same}
use Rattle.sq_reader.specs.Items.{Read, ◌>>=◌, is_empty, with_items, group_at, further, groups_from, groups}
use Rattle.sq_reader.specs.declared.items.Item.{Item}
use Rattle.sq_reader.specs.declared.items.Source.{Source}
use Rattle.sq_reader.specs.declared.items.Group.{Group}
use Rattle.sq_reader.proofs.PartsAgain.{AllSome, enough_bytes}

-- the items of each, by what stands behind it
abbrev pub all_items : {X : Type 0} → (X → Text) → (X → Text → List Item) → List X → List Item
all_items write items [] = []
all_items write items (x ∷ xs) = items x (flat_map write xs) ++ all_items write items xs

-- a group is read again, whatever follows
abbrev pub IsReadAgain : {X : Type 0} → Group → Source → (X → Text) → (X → Text → List Item) → X → Type 0
IsReadAgain group source write items x = (rest : Text) → group_at group source (write x ++ rest) ≡ Ok (items x rest, rest)

some_left : {X : Type 0} (write : X → Text) (x : X) (xs : List X) → AllSome write → is_empty (flat_map write (x ∷ xs)) ≡ false
some_left write x xs some =
    let first = some x in
    let parts = length-append (write x) (flat_map write xs) in
    let more : 0 < length (write x ++ flat_map write xs) = omega (arith, first, parts) in
    grind (arith, nat_tests)

groups_from_again : {X : Type 0} (group : Group) (source : Source) (write : X → Text) (items : X → Text → List Item) (x : X) (xs : List X) (n : ℕ) → AllSome write → IsReadAgain group source write items x → AllByRecursion (IsReadAgain group source write items) xs →
    length (x ∷ xs) ≤ n → groups_from group source n (flat_map write (x ∷ xs)) ≡ Ok (all_items write items (x ∷ xs))
groups_from_again group source write items x xs zero some first again enough = absurd (omega arith)
groups_from_again group source write items x [] (suc n) some first again enough =
    ap (λ (g : Read (List Item)). g >>= further (groups_from group source n)) (first []) ∙ ap Ok (sym (append-nil (items x [])))
groups_from_again group source write items x (y ∷ ys) (suc n) some first again enough =
    let rest : Text = flat_map write (y ∷ ys) in
    ap (λ (g : Read (List Item)). g >>= further (groups_from group source n)) (first rest)
    ∙ ap (λ (t : Bool). cond t (Ok (items x rest)) (with_items (items x rest) (groups_from group source n rest))) (some_left write y ys some)
    ∙ ap (with_items (items x rest)) (groups_from_again group source write items y ys n some again.0 again.1 (omega arith))

-- groups are read again up to the end
pub groups_again : {X : Type 0} (group : Group) (source : Source) (write : X → Text) (items : X → Text → List Item) (x : X) (xs : List X) → AllSome write → AllByRecursion (IsReadAgain group source write items) (x ∷ xs) →
    same (flat_map write (x ∷ xs)) (codes "\n") ≡ false → groups group source (flat_map write (x ∷ xs)) ≡ Ok (all_items write items (x ∷ xs))
groups_again group source write items x xs some again more =
    let text : Text = flat_map write (x ∷ xs) in
    let enough : length (x ∷ xs) ≤ length text = subst (λ (t : Text). length (x ∷ xs) ≤ length t) (append-nil text) (enough_bytes write (x ∷ xs) [] some) in
    ap (λ (t : Bool). cond t (Ok []) (groups_from group source (length text) text)) more
    ∙ groups_from_again group source write items x xs (length text) some again.0 again.1 enough
