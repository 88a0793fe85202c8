-- What the pieces of a production weigh, by the parts that are in them.
use Rattle.std.proofs.Common.{◌≡◌, ℕ, suc, ◌+◌, Bool, List, [], ◌∷◌, ◌++◌, refl, sym, ap, ◌∙◌, append_assoc, map}
use Rattle.std.specs.Prelude.{flat_map, max}
use Rattle.std.proofs.lemmas.List.{append-nil}
use Rattle.sq_base.specs.declared.place.Place.{Place}
use Rattle.sq_syntax.specs.declared.symbol.Symbol.TheVariants as s
use Rattle.sq_syntax.specs.declared.symbol.Reading.{Reading}
use Rattle.sq_syntax.specs.Facts.{Facts, Piece, Sort, most, built, sorted}
use Rattle.sq_syntax.specs.Pieces.{say, sym as word, at, listed}
use Rattle.sq_measures.specs.Parts.{Tree, Groups, single, weight, over, over_groups}

-- the parts among the pieces are these, in order
pub record Weighs (ps : List Piece) (gs : Groups) : Type 0 where
  pub weighs : (of : Facts → ℕ) (rest : List Piece) → most of (ps ++ rest) ≡ over_groups (weight of) gs (most of rest)

pub nil : Weighs [] []
nil = record { weighs = λ of rest. refl }

pub none : Weighs [] ([] ∷ [])
none = record { weighs = λ of rest. refl }

pub token : {ps : List Piece} {gs : Groups} (r : Reading) → Weighs ps gs → Weighs (say r ∷ ps) gs
token r w = record { weighs = λ of rest. w.weighs of rest }

pub placed : {ps : List Piece} {gs : Groups} (place : Place) → Weighs ps gs → Weighs (at place ∷ ps) gs
placed place w = record { weighs = λ of rest. w.weighs of rest }

pub asked : {ps : List Piece} {gs : Groups} (holds : Bool) → Weighs ps gs → Weighs (Piece.need holds ∷ ps) gs
asked holds w = record { weighs = λ of rest. w.weighs of rest }

pub part : {ps : List Piece} {gs : Groups} (least : ℕ) (x : Facts) (t : Tree) → ((of : Facts → ℕ) → of x ≡ weight of t) → Weighs ps gs → Weighs (Piece.part least x ∷ ps) (single t ∷ gs)
part {ps} {gs} least x t e w = record { weighs = λ of rest. ap (λ n. max n (most of (ps ++ rest))) (e of) ∙ ap (λ n. max (weight of t) n) (w.weighs of rest) }

over_append : (of : Tree → ℕ) (a b : List Tree) (n : ℕ) → over of (a ++ b) n ≡ over of a (over of b n)
over_append of [] b n = refl
over_append of (x ∷ a) b n = ap (λ k. max (of x) k) (over_append of a b n)

groups_append : (of : Tree → ℕ) (a b : Groups) (n : ℕ) → over_groups of (a ++ b) n ≡ over_groups of a (over_groups of b n)
groups_append of [] b n = refl
groups_append of (g ∷ a) b n = ap (λ k. over of g k) (groups_append of a b n)

pub append : {gs hs : Groups} (a b : List Piece) → Weighs a gs → Weighs b hs → Weighs (a ++ b) (gs ++ hs)
append {gs} {hs} a b v w = record {
  weighs = λ of rest.
      ap (λ ps. most of ps) (append_assoc a b rest) ∙ v.weighs of (b ++ rest) ∙ ap (λ n. over_groups (weight of) gs n) (w.weighs of rest) ∙ sym (groups_append (weight of) gs hs (most of rest));
}

-- ---- lists

module _ {A : Type 0} (pieces : A → List Piece) (one : (x : A) → Weighs (pieces x) []) where
  all_weigh : (xs : List A) (of : Facts → ℕ) (rest : List Piece) → most of (flat_map pieces xs ++ rest) ≡ most of rest
  all_weigh [] of rest = refl
  all_weigh (x ∷ xs) of rest = ap (λ ps. most of ps) (append_assoc (pieces x) (flat_map pieces xs) rest) ∙ (one x).weighs of (flat_map pieces xs ++ rest) ∙ all_weigh xs of rest

  pub all : (xs : List A) → Weighs (flat_map pieces xs) []
  all xs = record { weighs = all_weigh xs }

  more_weigh : (xs : List A) (of : Facts → ℕ) (rest : List Piece) → most of (flat_map (λ item. word s.Comma ∷ item) (map pieces xs) ++ rest) ≡ most of rest
  more_weigh [] of rest = refl
  more_weigh (x ∷ xs) of rest =
      let others = flat_map (λ item. word s.Comma ∷ item) (map pieces xs) in
      ap (λ ps. most of ps) (append_assoc (pieces x) others rest) ∙ (one x).weighs of (others ++ rest) ∙ more_weigh xs of rest

  pub listed_all : (xs : List A) → Weighs (listed (map pieces xs)) []
  listed_all [] = nil
  listed_all (x ∷ xs) = append (pieces x) (flat_map (λ item. word s.Comma ∷ item) (map pieces xs)) (one x) (record { weighs = more_weigh xs })

module _ {A B : Type 0} (pieces : B → List Piece) (facts : A → B) (tree : A → Tree) (one : (x : A) → Weighs (pieces (facts x)) (single (tree x) ∷ [])) where
  each_weigh : (xs : List A) (of : Facts → ℕ) (rest : List Piece) → most of (flat_map pieces (map facts xs) ++ rest) ≡ over (weight of) (map tree xs) (most of rest)
  each_weigh [] of rest = refl
  each_weigh (x ∷ xs) of rest =
      ap (λ ps. most of ps) (append_assoc (pieces (facts x)) (flat_map pieces (map facts xs)) rest) ∙ (one x).weighs of (flat_map pieces (map facts xs) ++ rest) ∙ ap (λ n. max (weight of (tree x)) n) (each_weigh xs of rest)

  pub each : (xs : List A) → Weighs (flat_map pieces (map facts xs)) (map tree xs ∷ [])
  each xs = record { weighs = each_weigh xs }

  others_weigh : (xs : List A) (of : Facts → ℕ) (rest : List Piece) → most of (flat_map (λ item. word s.Comma ∷ item) (map pieces (map facts xs)) ++ rest) ≡ over (weight of) (map tree xs) (most of rest)
  others_weigh [] of rest = refl
  others_weigh (x ∷ xs) of rest =
      let others = flat_map (λ item. word s.Comma ∷ item) (map pieces (map facts xs)) in
      ap (λ ps. most of ps) (append_assoc (pieces (facts x)) others rest) ∙ (one x).weighs of (others ++ rest) ∙ ap (λ n. max (weight of (tree x)) n) (others_weigh xs of rest)

  listed_weigh : (xs : List A) (of : Facts → ℕ) (rest : List Piece) → most of (listed (map pieces (map facts xs)) ++ rest) ≡ over (weight of) (map tree xs) (most of rest)
  listed_weigh [] of rest = refl
  listed_weigh (x ∷ xs) of rest =
      let others = flat_map (λ item. word s.Comma ∷ item) (map pieces (map facts xs)) in
      ap (λ ps. most of ps) (append_assoc (pieces (facts x)) others rest) ∙ (one x).weighs of (others ++ rest) ∙ ap (λ n. max (weight of (tree x)) n) (others_weigh xs of rest)

  pub items : (xs : List A) → Weighs (listed (map pieces (map facts xs))) (map tree xs ∷ [])
  items xs = record { weighs = listed_weigh xs }

-- ---- a whole

-- so much higher than the highest of its parts, and one layer more
pub record Grown (x : Facts) (gs : Groups) (steps : ℕ) : Type 0 where
  pub height : x.height ≡ over_groups (weight (λ y. y.height)) gs 0 + steps
  pub layers : x.layers ≡ suc (over_groups (weight (λ y. y.layers)) gs 0)

pub whole_weight : (ps : List Piece) (gs : Groups) → Weighs ps gs → (of : Facts → ℕ) → most of ps ≡ over_groups (weight of) gs 0
whole_weight ps gs w of = ap (λ qs. most of qs) (sym (append-nil ps)) ∙ w.weighs of []

pub grown : {gs : Groups} (sort : Sort) (level steps : ℕ) (ps : List Piece) → Weighs ps gs → Grown (sorted sort (built level steps ps)) gs steps
grown {gs} sort level steps ps w = record { height = ap (λ n. n + steps) (whole_weight ps gs w (λ y. y.height)); layers = ap (λ n. suc n) (whole_weight ps gs w (λ y. y.layers)) }
