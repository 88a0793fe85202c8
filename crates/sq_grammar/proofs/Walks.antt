-- A function over tokens that counts open brackets passes over what is balanced, and the tokens nest as deep as the tree.
use Rattle.std.proofs.Common.{◌≡◌, ℕ, zero, suc, ◌+◌, ◌-◌, ◌≤◌, Bool, true, false, List, [], ◌∷◌, ◌++◌, Option, Some, None, refl, sym, ap, subst, ◌∙◌, arith, map}
use Rattle.std.specs.Prelude.{flat_map, max}
use Rattle.std.proofs.lemmas.Grind.{common_steps}
use Rattle.sq_base.specs.declared.place.Place.{Place}
use Rattle.sq_syntax.specs.declared.symbol.Symbol.TheVariants as s
use Rattle.sq_syntax.specs.declared.symbol.Reading.{Reading}
use Rattle.sq_syntax.specs.declared.symbol.Reading.TheVariants as reading
use Rattle.sq_syntax.specs.declared.symbol.Lexeme.{Lexeme}
use Rattle.sq_syntax.specs.Facts.{Mark, Stream, Says, Along, Facts, Piece, Sort, Turn, turn, opens, readings, depth_before, piece_opens, deepest, from, built, sorted, numbered, all_hold, marks_of, piece_marks, piece_holds, most_layers}
use Rattle.sq_syntax.specs.Pieces.{sym as word, listed}
use Rattle.sq_grammar.specs.Ahead.{Lexemes, turned}
use Rattle.sq_grammar.proofs.Runs.{along_split, both}
use Rattle.sq_grammar.proofs.Complete.{only_if-from}

-- goes on token by token while a bracket is open
pub record Counts {A : Type 0} (w : Lexemes → ℕ → A) : Type 0 where
  pub one : (x : Lexeme) (rest : Lexemes) (n : ℕ) → w (x ∷ rest) (suc n) ≡ w rest (turned (turn x.reading) n)

-- the count is the same before and behind the tree's tokens, which nest as deep as the tree
pub record Walked {A : Type 0} (w : Lexemes → ℕ → A) (x : Facts) : Type 0 where
  pub walked : from 0 x.level ≡ true → (k : ℕ) (now next : Stream) → Along x.marks now next → w now.tokens (suc k) ≡ w next.tokens (suc k)
  pub nests : from 0 x.level ≡ true → (n : ℕ) → depth_before (readings x.marks) n ≡ max x.depth n

abbrev pub more : ℕ → ℕ → ℕ
more zero k = k
more (suc i) k = suc (more i k)

-- so many further brackets are open before the pieces, and so many behind them, where no part has more layers
pub record Flat {A : Type 0} (w : Lexemes → ℕ → A) (m i j : ℕ) (ps : List Piece) : Type 0 where
  pub flat : most_layers ps ≤ m → all_hold ps ≡ true → (k : ℕ) (now next : Stream) → Along (marks_of ps) now next → w now.tokens (suc (more i k)) ≡ w next.tokens (suc (more j k))
  pub nests : most_layers ps ≤ m → all_hold ps ≡ true → (n : ℕ) → depth_before (readings (marks_of ps)) n ≡ deepest ps n
  -- the depth behind the pieces shows only where they do not nest deeper themselves; `i` and `j` are the brackets that are open
  pub behind : all_hold ps ≡ true → (n : ℕ) → deepest ps n ≡ max (deepest ps 0) ((n + j) - i)

pub from_zero : (least : ℕ) (level : Option ℕ) → from least level ≡ true → from 0 level ≡ true
from_zero least None h = absurd (cc)
from_zero least (Some n) h = grind (arith, common_steps)

layers_split : (a b : List Piece) (m : ℕ) → most_layers (a ++ b) ≤ m → (most_layers a ≤ m) × (most_layers b ≤ m)
layers_split [] b m le = (omega arith, le)
layers_split (Piece.mark x ∷ a) b m le = layers_split a b m le
layers_split (Piece.need x ∷ a) b m le = layers_split a b m le
layers_split (Piece.part least x ∷ a) b m le = let r = layers_split a b m (omega (arith, le)) in (omega (arith, le, r.0), r.1)

pub holds_split : (a b : List Piece) → all_hold (a ++ b) ≡ true → (all_hold a ≡ true) × (all_hold b ≡ true)
holds_split [] b h = (refl, h)
holds_split (x ∷ a) b h =
    let s = both (piece_holds x) (all_hold (a ++ b)) h in
    let r = holds_split a b s.1 in
    (rw (s.0, r.0) refl, r.1)

marks_append : (a b : List Piece) → marks_of (a ++ b) ≡ marks_of a ++ marks_of b
marks_append [] b = refl
marks_append (x ∷ a) b = ap (λ ms. piece_marks x ++ ms) (marks_append a b) ∙ sym (append_of (piece_marks x) (marks_of a) (marks_of b))
  where
    append_of : (x y z : List Mark) → (x ++ y) ++ z ≡ x ++ (y ++ z)
    append_of x y z = Rattle.std.proofs.Common.append_assoc x y z

pub depth_split : (a b : List Mark) (n : ℕ) → depth_before (readings (a ++ b)) n ≡ depth_before (readings a) (depth_before (readings b) n)
depth_split [] b n = refl
depth_split (Mark.says r ∷ a) b n = ap (opens (turn r)) (depth_split a b n)
depth_split (Mark.stands_at place ∷ a) b n = depth_split a b n
depth_split (Mark.begins i ∷ a) b n = depth_split a b n
depth_split (Mark.ends i ∷ a) b n = depth_split a b n

deepest_split : (a b : List Piece) (n : ℕ) → deepest (a ++ b) n ≡ deepest a (deepest b n)
deepest_split [] b n = refl
deepest_split (x ∷ a) b n = ap (piece_opens x) (deepest_split a b n)

nothing_open : (n i : ℕ) → n ≡ max 0 ((n + i) - i)
nothing_open n i = omega arith

nothing_behind : (d n a : ℕ) → a ≡ max d ((n + 0) - 0) → a ≡ max d n
nothing_behind d n a h = omega (arith, h)

quiet : (v : Turn) → v ≡ Turn.neither → (d a n : ℕ) → a ≡ max d n → opens v a ≡ max (opens v d) n
quiet Turn.opening t d a n h = absurd (cc)
quiet Turn.closing t d a n h = absurd (cc)
quiet Turn.neither t d a n h = h

opened : (v : Turn) → v ≡ Turn.opening → (d a n i j : ℕ) → a ≡ max d ((n + j) - suc i) → opens v a ≡ max (opens v d) ((n + j) - i)
opened Turn.opening t d a n i j h = omega (arith, h)
opened Turn.closing t d a n i j h = absurd (cc)
opened Turn.neither t d a n i j h = absurd (cc)

closed : (v : Turn) → v ≡ Turn.closing → (d a n i j : ℕ) → a ≡ max d ((n + j) - i) → opens v a ≡ max (opens v d) ((n + j) - suc i)
closed Turn.opening t d a n i j h = absurd (cc)
closed Turn.closing t d a n i j h = omega (arith, h)
closed Turn.neither t d a n i j h = absurd (cc)

deeper_part : (x d n i j a : ℕ) → a ≡ max d ((n + j) - i) → max x a ≡ max (max x d) ((n + j) - i)
deeper_part x d n i j a h = omega (arith, h)

joined : (i j l n a b0 bn an ab : ℕ) → bn ≡ max b0 ((n + l) - j) → an ≡ max a ((bn + j) - i) → ab ≡ max a ((b0 + j) - i) → an ≡ max ab ((n + l) - i)
joined i j l n a b0 bn an ab h k p = omega (arith, h, k, p)

pub pieces_split : (a b : List Piece) (now next : Stream) → Along (marks_of (a ++ b)) now next → (u : Stream) × Along (marks_of a) now u × Along (marks_of b) u next
pieces_split a b now next h = along_split (marks_of a) (marks_of b) now next (subst (λ ms. Along ms now next) (marks_append a b) h)

module _ {A : Type 0} (w : Lexemes → ℕ → A) (counts : Counts w) (m : ℕ) where
  said : (r : Reading) (n : ℕ) (now u : Stream) → Says r now u → w now.tokens (suc n) ≡ w u.tokens (turned (turn r) n)
  said r n now u h = ap (λ tokens. w tokens (suc n)) h.first ∙ counts.one (record { reading = r; place = h.place }) u.tokens n

  pub nil : {i : ℕ} → Flat w m i i []
  nil {i} = record {
    flat = λ le h k now next a. ap (λ (u : Stream). w u.tokens (suc (more i k))) a;
    nests = λ le h n. refl;
    behind = λ h n. nothing_open n i;
  }

  pub token : {i j : ℕ} {ps : List Piece} (r : Reading) → turn r ≡ Turn.neither → Flat w m i j ps → Flat w m i j (Piece.mark (Mark.says r) ∷ ps)
  token {i} {j} {ps} r t f = record {
    flat = λ le h k now next a. said r (more i k) now a.0 a.1 ∙ ap (λ v. w a.0.tokens (turned v (more i k))) t ∙ f.flat le h k a.0 next a.2;
    nests = λ le h n. ap (opens (turn r)) (f.nests le h n);
    behind = λ h n. quiet (turn r) t (deepest ps 0) (deepest ps n) ((n + j) - i) (f.behind h n);
  }

  pub opening : {i j : ℕ} {ps : List Piece} (r : Reading) → turn r ≡ Turn.opening → Flat w m (suc i) j ps → Flat w m i j (Piece.mark (Mark.says r) ∷ ps)
  opening {i} {j} {ps} r t f = record {
    flat = λ le h k now next a. said r (more i k) now a.0 a.1 ∙ ap (λ v. w a.0.tokens (turned v (more i k))) t ∙ f.flat le h k a.0 next a.2;
    nests = λ le h n. ap (opens (turn r)) (f.nests le h n);
    behind = λ h n. opened (turn r) t (deepest ps 0) (deepest ps n) n i j (f.behind h n);
  }

  pub closing : {i j : ℕ} {ps : List Piece} (r : Reading) → turn r ≡ Turn.closing → Flat w m i j ps → Flat w m (suc i) j (Piece.mark (Mark.says r) ∷ ps)
  closing {i} {j} {ps} r t f = record {
    flat = λ le h k now next a. said r (suc (more i k)) now a.0 a.1 ∙ ap (λ v. w a.0.tokens (turned v (suc (more i k)))) t ∙ f.flat le h k a.0 next a.2;
    nests = λ le h n. ap (opens (turn r)) (f.nests le h n);
    behind = λ h n. closed (turn r) t (deepest ps 0) (deepest ps n) n i j (f.behind h n);
  }

  pub placed : {i j : ℕ} {ps : List Piece} (place : Place) → Flat w m i j ps → Flat w m i j (Piece.mark (Mark.stands_at place) ∷ ps)
  placed {i} {j} {ps} place f = record { flat = λ le h k now next a. f.flat le h k now next a.1; nests = f.nests; behind = f.behind }

  pub begun : {i j : ℕ} {ps : List Piece} (n : ℕ) → Flat w m i j ps → Flat w m i j (Piece.mark (Mark.begins n) ∷ ps)
  begun {i} {j} {ps} n f = record { flat = λ le h k now next a. f.flat le h k now next a.1; nests = f.nests; behind = f.behind }

  pub ended : {i j : ℕ} {ps : List Piece} (n : ℕ) → Flat w m i j ps → Flat w m i j (Piece.mark (Mark.ends n) ∷ ps)
  ended {i} {j} {ps} n f = record { flat = λ le h k now next a. f.flat le h k now next a.1; nests = f.nests; behind = f.behind }

  pub needed : {i j : ℕ} {ps : List Piece} (b : Bool) → (b ≡ true → Flat w m i j ps) → Flat w m i j (Piece.need b ∷ ps)
  needed {i} {j} {ps} b f = record {
    flat = λ le h k now next a. let s = both b (all_hold ps) h in (f s.0).flat le s.1 k now next a;
    nests = λ le h n. let s = both b (all_hold ps) h in (f s.0).nests le s.1 n;
    behind = λ h n. let s = both b (all_hold ps) h in (f s.0).behind s.1 n;
  }

  pub asked : (b : Bool) {i j : ℕ} {ps : List Piece} → Flat w m i j ps → Flat w m i j (Piece.need b ∷ ps)
  asked b f = needed b (λ h. f)

  walked_more : (x : Facts) → Walked w x → from 0 x.level ≡ true → (i k : ℕ) (now next : Stream) → Along x.marks now next → w now.tokens (suc (more i k)) ≡ w next.tokens (suc (more i k))
  walked_more x f h i k now next a = f.walked h (more i k) now next a

  pub part : {i j : ℕ} {ps : List Piece} (least : ℕ) (x : Facts) → (x.layers ≤ m → Walked w x) → Flat w m i j ps → Flat w m i j (Piece.part least x ∷ ps)
  part {i} {j} {ps} least x f g = record {
    flat = λ le h k now next a.
        let s = both (from least x.level) (all_hold ps) h in
        let t = along_split x.marks (marks_of ps) now next a in
        walked_more x (f (omega (arith, le))) (from_zero least x.level s.0) i k now t.0 t.1 ∙ g.flat (omega (arith, le)) s.1 k t.0 next t.2;
    nests = λ le h n.
        let s = both (from least x.level) (all_hold ps) h in
        depth_split x.marks (marks_of ps) n ∙ (f (omega (arith, le))).nests (from_zero least x.level s.0) (depth_before (readings (marks_of ps)) n) ∙ ap (max x.depth) (g.nests (omega (arith, le)) s.1 n);
    behind = λ h n. deeper_part x.depth (deepest ps 0) n i j (deepest ps n) (g.behind (both (from least x.level) (all_hold ps) h).1 n);
  }

  pub append : {i j l : ℕ} (a b : List Piece) → Flat w m i j a → Flat w m j l b → Flat w m i l (a ++ b)
  append {i} {j} {l} a b f g = record {
    flat = λ le h k now next along.
        let n = layers_split a b m le in
        let s = holds_split a b h in
        let t = pieces_split a b now next along in
        f.flat n.0 s.0 k now t.0 t.1 ∙ g.flat n.1 s.1 k t.0 next t.2;
    nests = λ le h n.
        let k = layers_split a b m le in
        let s = holds_split a b h in
        ap (λ ms. depth_before (readings ms) n) (marks_append a b) ∙ depth_split (marks_of a) (marks_of b) n ∙ ap (depth_before (readings (marks_of a))) (g.nests k.1 s.1 n) ∙ f.nests k.0 s.0 (deepest b n) ∙ sym (deepest_split a b n);
    behind = λ h n.
        let s = holds_split a b h in
        joined i j l n (deepest a 0) (deepest b 0) (deepest b n) (deepest (a ++ b) n) (deepest (a ++ b) 0) (g.behind s.1 n) (deepest_split a b n ∙ f.behind s.0 (deepest b n)) (deepest_split a b 0 ∙ f.behind s.0 (deepest b 0));
  }

  pub each : {i : ℕ} {X Y : Type 0} (f : Y → List Piece) (g : X → Y) → ((x : X) → Flat w m i i (f (g x))) → (xs : List X) → Flat w m i i (flat_map f (map g xs))
  each f g h [] = nil
  each f g h (x ∷ xs) = append (f (g x)) (flat_map f (map g xs)) (h x) (each f g h xs)

  pub all : {i : ℕ} {X : Type 0} (f : X → List Piece) → ((x : X) → Flat w m i i (f x)) → (xs : List X) → Flat w m i i (flat_map f xs)
  all f h [] = nil
  all f h (x ∷ xs) = append (f x) (flat_map f xs) (h x) (all f h xs)

  pub commas : {i : ℕ} {X Y : Type 0} (f : Y → List Piece) (g : X → Y) → ((x : X) → Flat w m i i (f (g x))) → (xs : List X) → Flat w m i i (flat_map (λ item. word s.Comma ∷ item) (map f (map g xs)))
  commas f g h [] = nil
  commas f g h (x ∷ xs) = token (reading.Symbol s.Comma) refl (append (f (g x)) (flat_map (λ item. word s.Comma ∷ item) (map f (map g xs))) (h x) (commas f g h xs))

  pub items : {i : ℕ} {X Y : Type 0} (f : Y → List Piece) (g : X → Y) → ((x : X) → Flat w m i i (f (g x))) → (xs : List X) → Flat w m i i (listed (map f (map g xs)))
  items f g h [] = nil
  items f g h (x ∷ xs) = append (f (g x)) (flat_map (λ item. word s.Comma ∷ item) (map f (map g xs))) (h x) (commas f g h xs)

  more_of : {i : ℕ} {X : Type 0} (f : X → List Piece) → ((x : X) → Flat w m i i (f x)) → (xs : List X) → Flat w m i i (flat_map (λ item. word s.Comma ∷ item) (map f xs))
  more_of f h [] = nil
  more_of f h (x ∷ xs) = token (reading.Symbol s.Comma) refl (append (f x) (flat_map (λ item. word s.Comma ∷ item) (map f xs)) (h x) (more_of f h xs))

  pub list_of : {i : ℕ} {X : Type 0} (f : X → List Piece) → ((x : X) → Flat w m i i (f x)) → (xs : List X) → Flat w m i i (listed (map f xs))
  list_of f h [] = nil
  list_of f h (x ∷ xs) = append (f x) (flat_map (λ item. word s.Comma ∷ item) (map f xs)) (h x) (more_of f h xs)

  pub whole_walked : (sort : Sort) (n steps : ℕ) (ps : List Piece) → Flat w m 0 0 ps → (built n steps ps).layers ≤ suc m → Walked w (sorted sort (built n steps ps))
  whole_walked sort n steps ps f le = record {
    walked = λ h k now next a. f.flat (omega (arith, le)) (only_if-from (all_hold ps) n 0 h) k now next a;
    nests = λ h i. let s = only_if-from (all_hold ps) n 0 h in f.nests (omega (arith, le)) s i ∙ nothing_behind (deepest ps 0) i (deepest ps i) (f.behind s i);
  }

pub numbered_walked : {A : Type 0} (w : Lexemes → ℕ → A) (first last : ℕ) (x : Facts) → Walked w x → Walked w (numbered first last x)
numbered_walked w first last x f = record {
  walked = λ h k now next a.
      let t = along_split x.marks (Mark.ends last ∷ []) now next a.1 in
      f.walked h k now t.0 t.1 ∙ ap (λ (u : Stream). w u.tokens (suc k)) t.2.1;
  nests = λ h n. depth_split x.marks (Mark.ends last ∷ []) n ∙ f.nests h n;
}
