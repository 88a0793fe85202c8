-- Reading group after group.
use Rattle.std.proofs.Common.{◌≡◌, ℕ, zero, suc, ◌<◌, ◌≤◌, Bool, true, false, cond, List, [], ◌∷◌, ◌++◌, codes, length, Ok, Err, Result, refl, ap, sym, ◌∙◌, append_assoc, arith}
use Rattle.sq_reader.specs.Parts.{Text, same}
use Rattle.sq_reader.specs.Gives.{Halts}
use Rattle.sq_reader.specs.declared.items.Halt.{Halt}
use Rattle.sq_reader.specs.declared.items.Halt.TheVariants.{At, NoMemory}
use Rattle.sq_reader.specs.Items.{Read, ◌>>=◌, is_empty, spot, with_items, group_at, further, groups_from, groups, query_group}
use Rattle.sq_reader.specs.Forms.{struct_at, constant_at}
use Rattle.sq_reader.specs.declared.items.Spot.{Spot}
use Rattle.sq_reader.specs.declared.items.Source.{Source}
use Rattle.sq_reader.specs.declared.items.Item.{Item}
use Rattle.sq_reader.specs.declared.items.Group.{Group}
use Rattle.sq_reader.specs.declared.items.Group.TheVariants.{Models, Calls}

pub with_none : (r : Result (List Item) Spot) → with_items [] r ≡ r
with_none (Ok more) = refl
with_none (Err spot) = refl

pub with_more : (xs ys : List Item) (r : Result (List Item) Spot) → with_items (xs ++ ys) r ≡ with_items xs (with_items ys r)
with_more xs ys (Ok more) = ap Ok (append_assoc xs ys more)
with_more xs ys (Err spot) = refl

-- what a loop keeps: the items so far, before those of the rest, are those of all
abbrev pub IsToldOf : Group → Source → Text → List Item → Text → Type 0
IsToldOf group source text items rest = (n : ℕ) × (length rest ≤ n) × (with_items items (groups_from group source n rest) ≡ groups_from group source (length text) text)

pub told_none : (group : Group) (source : Source) (text : Text) → IsToldOf group source text [] text
told_none group source text = (length text, omega arith, with_none (groups_from group source (length text) text))

pub told_one : (group : Group) (source : Source) (text : Text) (items more : List Item) (rest later : Text) → group_at group source rest ≡ Ok (more, later) → length later < length rest →
    is_empty later ≡ false → IsToldOf group source text items rest → IsToldOf group source text (items ++ more) later
told_one group source text items more rest later found shorter goes_on told = go told.0 told.1 told.2
  where
    go : (n : ℕ) → length rest ≤ n → with_items items (groups_from group source n rest) ≡ groups_from group source (length text) text → IsToldOf group source text (items ++ more) later
    go zero enough same = absurd (omega arith)
    go (suc n) enough same = (
      n,
      omega arith,
      with_more items more (groups_from group source n later)
          ∙ sym (ap (λ (t : Bool). with_items items (cond t (Ok more) (with_items more (groups_from group source n later)))) goes_on)
          ∙ sym (ap (λ (g : Read (List Item)). with_items items (g >>= further (groups_from group source n))) found) ∙ same,
    )

pub told_last : (group : Group) (source : Source) (text : Text) (items more : List Item) (rest later : Text) → group_at group source rest ≡ Ok (more, later) → length later < length rest →
    is_empty later ≡ true → IsToldOf group source text items rest → groups_from group source (length text) text ≡ Ok (items ++ more)
told_last group source text items more rest later found shorter ends told = go told.0 told.1 told.2
  where
    go : (n : ℕ) → length rest ≤ n → with_items items (groups_from group source n rest) ≡ groups_from group source (length text) text → groups_from group source (length text) text ≡ Ok (items ++ more)
    go zero enough same = absurd (omega arith)
    go (suc n) enough same =
        sym same ∙ ap (λ (g : Read (List Item)). with_items items (g >>= further (groups_from group source n))) found
        ∙ ap (λ (t : Bool). with_items items (cond t (Ok more) (with_items more (groups_from group source n later)))) ends

-- nothing reads as no group
at_nothing : (group : Group) (source : Source) → group_at group source [] ≡ Err (spot source.file [])
unfolding struct_at constant_at query_group
at_nothing Models source = refl
at_nothing Calls source = refl

one_spot : (a b : Spot) → ◌≡◌ {A = Read (List Item)} (Err a) (Err b) → a ≡ b
one_spot a b e = cc

pub told_fault : (group : Group) (source : Source) (text : Text) (items : List Item) (rest : Text) (fault : Spot) → group_at group source rest ≡ Err fault →
    IsToldOf group source text items rest → groups_from group source (length text) text ≡ Err fault
told_fault group source text items [] fault found told = go told.0 told.2
  where
    here : spot source.file [] ≡ fault
    here = sym (one_spot fault (spot source.file []) (sym found ∙ at_nothing group source))

    go : (n : ℕ) → with_items items (groups_from group source n []) ≡ groups_from group source (length text) text → groups_from group source (length text) text ≡ Err fault
    go zero same = sym same ∙ ap Err here
    go (suc n) same = sym same ∙ ap (λ (g : Read (List Item)). with_items items (g >>= further (groups_from group source n))) found
told_fault group source text items (b ∷ bs) fault found told = go told.0 told.1 told.2
  where
    go : (n : ℕ) → length (b ∷ bs) ≤ n → with_items items (groups_from group source n (b ∷ bs)) ≡ groups_from group source (length text) text → groups_from group source (length text) text ≡ Err fault
    go zero enough same = absurd (omega arith)
    go (suc n) enough same = sym same ∙ ap (λ (g : Read (List Item)). with_items items (g >>= further (groups_from group source n))) found

-- the same of whatever ends the loop
pub told_halt : (group : Group) (source : Source) (text : Text) (items : List Item) (rest : Text) (fault : Halt) → Halts {X = List Item × Text} (λ x. x) (Err fault) (group_at group source rest) →
    IsToldOf group source text items rest → same text (codes "\n") ≡ false → Halts {X = List Item} (λ x. x) (Err fault) (groups group source text)
told_halt group source text items rest (At spot) found told different =
    ap (λ (b : Bool). cond b (Ok []) (groups_from group source (length text) text)) different ∙ told_fault group source text items rest spot found told
told_halt group source text items rest NoMemory found told different = tt
