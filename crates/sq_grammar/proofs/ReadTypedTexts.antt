-- What begins with a type and goes on with a text is read so.
use Rattle.std.proofs.Common.{◌≡◌, ℕ, Bool, true, false, List, [], ◌∷◌, ◌++◌, Option, Some, None, refl, sym, ap, subst, ◌∙◌, append_assoc}
use Rattle.std.specs.Prelude.{flat_map, ◌&&◌, if◌then◌else◌}
use Rattle.sq_base.specs.declared.place.Place.{Place}
use Rattle.sq_syntax.specs.declared.symbol.Symbol.{Symbol}
use Rattle.sq_syntax.specs.declared.symbol.Symbol.TheVariants as s
use Rattle.sq_syntax.specs.declared.symbol.Reading.{Reading}
use Rattle.sq_syntax.specs.declared.symbol.Reading.TheVariants as reading
use Rattle.sq_syntax.specs.declared.name.Identifier.{Identifier}
use Rattle.sq_syntax.specs.declared.name.TypeWord.{TypeWord}
use Rattle.sq_syntax.specs.declared.name.TypeWord.TheVariants as type_word
use Rattle.sq_syntax.specs.declared.name.TypeName.{TypeName}
use Rattle.sq_syntax.specs.declared.expr.Expression.TheVariants as e
use Rattle.sq_syntax.specs.declared.query.Query.{Query}
use Rattle.sq_syntax.specs.Facts.{Stream, Says, Piece}
use Rattle.sq_syntax.specs.Symbols.{text, identifier_reading, is_name}
use Rattle.sq_syntax.specs.Pieces as p
use Rattle.sq_syntax.specs.Pieces.{sym as word, say, at}
use Rattle.sq_grammar.specs.Reading.{Parser, ◌>>=◌, choose, sees, same, here, node}
use Rattle.sq_grammar.specs.Ahead.{skip_word, skip_dots, types_text, is_some}
use Rattle.sq_grammar.specs.Levels.{Expr}
use Rattle.sq_grammar.specs.Names.{type}
use Rattle.sq_grammar.specs.Primaries.{primary, by_reading, calls, column, call, typed_text, begins_purpose, purpose_of, text_of, a_text}
use Rattle.sq_grammar.proofs.Runs.{Run, both}
use Rattle.sq_grammar.proofs.Complete.{step, says_token, Framed}
use Rattle.sq_grammar.proofs.Joints.{false_true}
use Rattle.sq_grammar.proofs.ReadNames.{chosen}
use Rattle.sq_grammar.proofs.ReadTypes.{other_symbol, type_read, goes_on_type}
use Rattle.sq_grammar.proofs.Simple.{by_first, placed}
use Rattle.sq_grammar.proofs.Named.{not_dot, types_behind, dot_skipped, no_purpose, purpose_calls, calls_behind, is_special, to_named}
use Rattle.sq_grammar.proofs.Calls.{symbol_name}
use Rattle.sq_grammar.proofs.TypedTexts.{ending, sized, size_lacks, zone_lacks, no_words, behind_words}

-- ---- a type with numbers in brackets is no word of another form

unsized : (name : List ℕ) → p.named_among p.sized_types (Some name) ≡ false → p.named_among p.scaled_types (Some name) ≡ false → (n : List ℕ) (ns : List (List ℕ)) → p.size_fits (Some name) (n ∷ ns) ≡ false
unsized name a b n [] = a
unsized name a b n (k ∷ []) = b
unsized name a b n (k ∷ l ∷ ns) = refl

misfit : (x : Identifier) (k : Symbol) (n : List ℕ) (ns : List (List ℕ)) → identifier_reading x ≡ reading.Symbol k → p.named_among p.sized_types (Some (text k)) ≡ false → p.named_among p.scaled_types (Some (text k)) ≡ false → p.size_fits (Some x.name) (n ∷ ns) ≡ true → ⊥
misfit x k n ns h a b fits = false_true (sym (unsized (text k) a b n ns) ∙ sym (ap (λ name. p.size_fits (Some name) (n ∷ ns)) (symbol_name x k h)) ∙ fits)

no_special : (r : Reading) (x : Identifier) (n : List ℕ) (ns : List (List ℕ)) → identifier_reading x ≡ r → is_special r ≡ true → p.size_fits (Some x.name) (n ∷ ns) ≡ true → ⊥
no_special (reading.Symbol s.Coalesce) x n ns h k fits = misfit x s.Coalesce n ns h refl refl fits
no_special (reading.Symbol s.Greatest) x n ns h k fits = misfit x s.Greatest n ns h refl refl fits
no_special (reading.Symbol s.Least) x n ns h k fits = misfit x s.Least n ns h refl refl fits
no_special (reading.Symbol s.NullIf) x n ns h k fits = misfit x s.NullIf n ns h refl refl fits
no_special (reading.Symbol s.Extract) x n ns h k fits = misfit x s.Extract n ns h refl refl fits
no_special (reading.Symbol _) x n ns h k fits = cc
no_special _ x n ns h k fits = cc

purposeless : (r : Reading) (place : Place) (x : Identifier) (n : List ℕ) (ns : List (List ℕ)) → identifier_reading x ≡ r → p.size_fits (Some x.name) (n ∷ ns) ≡ true → is_some (purpose_of r place) ≡ false
purposeless (reading.Symbol s.Arg) place x n ns h fits = absurd (misfit x s.Arg n ns h refl refl fits)
purposeless (reading.Symbol s.Narg) place x n ns h fits = absurd (misfit x s.Narg n ns h refl refl fits)
purposeless (reading.Symbol s.Slice) place x n ns h fits = absurd (misfit x s.Slice n ns h refl refl fits)
purposeless (reading.Symbol _) place x n ns h fits = refl
purposeless _ place x n ns h fits = refl

built_in_fits : (b : Bool) (name n : List ℕ) (ns : List (List ℕ)) → p.size_fits (if b then Some name else None) (n ∷ ns) ≡ true → p.size_fits (Some name) (n ∷ ns) ≡ true
built_in_fits true name n ns h = h
built_in_fits false name n [] h = absurd (false_true h)
built_in_fits false name n (k ∷ []) h = absurd (false_true h)
built_in_fits false name n (k ∷ l ∷ ns) h = absurd (false_true h)

no_purpose_at : (r q : Reading) (now u v w : Stream) → Says r now u → Says (reading.Symbol s.Dot) u v → (k : Says q v w) → is_some (purpose_of q k.place) ≡ false → begins_purpose now.tokens ≡ false
no_purpose_at r q now u v w h dot k none =
    ap begins_purpose h.first
    ∙ ap (λ tokens. begins_purpose (record { reading = r; place = h.place } ∷ tokens)) dot.first
    ∙ ap (λ tokens. begins_purpose (record { reading = r; place = h.place } ∷ record { reading = reading.Symbol s.Dot; place = dot.place } ∷ tokens)) k.first
    ∙ none_of _ _ _ none
  where
    none_of : (a b c : Bool) → b ≡ false → a && (b && c) ≡ false
    none_of true b c h = rw h refl
    none_of false b c h = refl

module _ (nested : Parser Expr) (inner : Parser Query) where
  to_typed : (r : Reading) (now : Stream) → is_name r ≡ true → (is_special r ≡ true → calls now.tokens ≡ false) → begins_purpose now.tokens ≡ false → types_text now.tokens ≡ true → by_reading nested inner r now ≡ typed_text now
  to_typed r now h c k t = to_named nested inner r now h c k ∙ chosen (λ v. types_text v.tokens) typed_text (choose (λ v. calls v.tokens) (call nested inner) column) now t

  -- what stands behind the words
  abbrev behind : TypeName → List ℕ → List Piece
  behind to bytes = sized to.size to.zone to.arrays bytes

  open_lack : (to : TypeName) (bytes : List ℕ) (d : ℕ) (u next : Stream) → to.size ≡ [] → Run (behind to bytes) d u next → sees s.Open u ≡ false
  unfolding same
  open_lack to bytes d u next h run = zone_lacks s.Open refl refl refl to.zone to.arrays bytes d u next (subst (λ ns. Run (sized ns to.zone to.arrays bytes) d u next) h run)

  special_calls : (to : TypeName) (x : Identifier) (bytes : List ℕ) (d : ℕ) (now u next : Stream) → Says (identifier_reading x) now u → Run (behind to bytes) d u next → p.size_fits (Some x.name) to.size ≡ true → is_special (identifier_reading x) ≡ true → calls now.tokens ≡ false
  special_calls to x bytes d now u next h run fits special = by_size to.size refl
    where
      by_size : (ns : List (List ℕ)) → to.size ≡ ns → calls now.tokens ≡ false
      by_size [] k = calls_behind (identifier_reading x) now u h ∙ open_lack to bytes d u next k run
      by_size (n ∷ ns) k = absurd (no_special (identifier_reading x) x n ns refl special (subst (λ size. p.size_fits (Some x.name) size ≡ true) k fits))

  schema_purpose : (to : TypeName) (b : Bool) (r : Reading) (x : Identifier) (bytes : List ℕ) (d : ℕ) (now u v w next : Stream) → Says r now u → Says (reading.Symbol s.Dot) u v → Says (identifier_reading x) v w → Run (behind to bytes) d w next
      → p.size_fits (if b then Some x.name else None) to.size ≡ true → begins_purpose now.tokens ≡ false
  schema_purpose to b r x bytes d now u v w next h dot k run fits = by_size to.size refl
    where
      by_size : (ns : List (List ℕ)) → to.size ≡ ns → begins_purpose now.tokens ≡ false
      by_size [] m = purpose_calls r (identifier_reading x) now u v w h dot k (open_lack to bytes d w next m run)
      by_size (n ∷ ns) m =
          let fitting = built_in_fits b x.name n ns (subst (λ size. p.size_fits (if b then Some x.name else None) size ≡ true) m fits) in
          no_purpose_at r (identifier_reading x) now u v w h dot k (purposeless (identifier_reading x) k.place x n ns refl fitting)

  precision_skipped : (u v : Stream) → Says (reading.Symbol s.Precision) u v → skip_word (skip_dots u.tokens) ≡ v.tokens
  unfolding same
  precision_skipped u v h = ap skip_word (not_dot u.tokens (other_symbol s.Dot s.Precision u v h refl)) ∙ ap skip_word h.first

  varying_skipped : (u v : Stream) → Says (reading.Symbol s.Varying) u v → skip_word (skip_dots u.tokens) ≡ v.tokens
  unfolding same
  varying_skipped u v h = ap skip_word (not_dot u.tokens (other_symbol s.Dot s.Varying u v h refl)) ∙ ap skip_word h.first

  name_typed : (to : TypeName) (x : Identifier) (bytes : List ℕ) (d : ℕ) (now next : Stream) → Run (p.name x ++ behind to bytes) d now next → p.size_fits (Some x.name) to.size ≡ true → primary nested inner now ≡ typed_text now
  unfolding same
  name_typed to x bytes d now next run fits =
      let h = run.1.1 in
      let u = h.0 in
      let rest = h.3 in
      by_first nested inner (identifier_reading x) now u h.1
      ∙ to_typed (identifier_reading x) now run.0 (special_calls to x bytes _ now u next h.1 rest fits)
      (no_purpose (identifier_reading x) now u h.1 (size_lacks s.Dot refl refl refl refl to.size to.zone to.arrays bytes _ u next rest))
      (types_behind (identifier_reading x) now u h.1 ∙ behind_words to.size to.zone to.arrays bytes _ _ u next rest (no_words to.size to.zone to.arrays bytes _ u next rest))

  schema_typed : (to : TypeName) (y x : Identifier) (b : Bool) (bytes : List ℕ) (d : ℕ) (now next : Stream) → Run (p.name y ++ word s.Dot ∷ p.name x ++ behind to bytes) d now next → p.size_fits (if b then Some x.name else None) to.size ≡ true → primary nested inner now ≡ typed_text now
  unfolding same
  schema_typed to y x b bytes d now next run fits =
      let h = run.1.1 in
      let u = h.0 in
      let dot = h.3 in
      let v = dot.0 in
      let k = dot.3.1.1 in
      let w = k.0 in
      let rest = k.3 in
      by_first nested inner (identifier_reading y) now u h.1
      ∙ to_typed (identifier_reading y) now run.0 (λ special. calls_behind (identifier_reading y) now u h.1 ∙ other_symbol s.Open s.Dot u v dot.1 refl)
      (schema_purpose to b (identifier_reading y) x bytes _ now u v w next h.1 dot.1 k.1 rest fits)
      (types_behind (identifier_reading y) now u h.1 ∙ dot_skipped (identifier_reading x) u v w dot.1 k.1
      ∙ behind_words to.size to.zone to.arrays bytes _ _ w next rest (no_words to.size to.zone to.arrays bytes _ w next rest))

  words_typed : (to : TypeName) (words : TypeWord) (bytes : List ℕ) (d : ℕ) (now next : Stream) → Run (p.type_words words ++ behind to bytes) d now next → p.size_fits (p.plain_type words) to.size ≡ true → primary nested inner now ≡ typed_text now
  unfolding same
  words_typed to (type_word.DoublePrecision place) bytes d now next run fits =
      let u = run.1.0 in
      let v = run.1.3.0 in
      by_first nested inner (reading.Symbol s.Double) now u run.1.1
      ∙ to_typed (reading.Symbol s.Double) now refl (λ k. absurd (false_true k)) (no_purpose (reading.Symbol s.Double) now u run.1.1 (other_symbol s.Dot s.Precision u v run.1.3.1 refl))
      (types_behind (reading.Symbol s.Double) now u run.1.1 ∙ behind_words to.size to.zone to.arrays bytes d _ v next run.1.3.3 (precision_skipped u v run.1.3.1))
  words_typed to (type_word.CharacterVarying place) bytes d now next run fits =
      let u = run.1.0 in
      let v = run.1.3.0 in
      by_first nested inner (reading.Symbol s.Character) now u run.1.1
      ∙ to_typed (reading.Symbol s.Character) now refl (λ k. absurd (false_true k)) (no_purpose (reading.Symbol s.Character) now u run.1.1 (other_symbol s.Dot s.Varying u v run.1.3.1 refl))
      (types_behind (reading.Symbol s.Character) now u run.1.1 ∙ behind_words to.size to.zone to.arrays bytes d _ v next run.1.3.3 (varying_skipped u v run.1.3.1))
  words_typed to (type_word.Named q) bytes d now next run fits = by_schema q.schema run fits
    where
      by_schema : (schema : Option Identifier) → Run ((p.schema_name schema ++ p.name q.name) ++ behind to bytes) d now next → p.size_fits (if p.is_built_in schema then Some q.name.name else None) to.size ≡ true → primary nested inner now ≡ typed_text now
      by_schema None r f = name_typed to q.name bytes d now next r f
      by_schema (Some y) r f = schema_typed to y q.name (p.is_built_in (Some y)) bytes d now next r f

  text_read : (bytes : List ℕ) (u next : Stream) → Says (reading.Text bytes) u next → a_text u ≡ Some (bytes, next)
  unfolding a_text
  text_read bytes u next h = says_token text_of bytes (reading.Text bytes) u next h refl

  typed_made : (d : ℕ) (to : TypeName) (bytes : List ℕ) (x : Expr) (now next : Stream) → x.form ≡ e.TypedText to bytes → Framed x now next → Run (at x.place ∷ p.type to ++ ending bytes) d now next → typed_text now ≡ Some (x, next)
  unfolding typed_text
  typed_made d to bytes x now next form f run =
      let t = type_read d to (ending bytes) now next run.1 (λ u r. ap goes_on_type r.1.first) in
      step type (λ a. a_text >>= (λ b. node now (here now) (e.TypedText a b))) now t.0 to t.1
      ∙ step a_text (λ b. node now (here now) (e.TypedText to b)) t.0 t.2.0 bytes (text_read bytes t.0 t.2.0 t.2.1)
      ∙ ap (λ v. node now (here now) (e.TypedText to bytes) v) t.2.3
      ∙ placed x now next (e.TypedText to bytes) f form run.0

  pub reads_typed_text : (d : ℕ) (to : TypeName) (bytes : List ℕ) (x : Expr) (now next : Stream) → x.form ≡ e.TypedText to bytes → Framed x now next → Run (at x.place ∷ p.type to ++ ending bytes) d now next → primary nested inner now ≡ Some (x, next)
  reads_typed_text d to bytes x now next form f run =
      let texts : (((p.type_words to.word ++ p.size to.size) ++ p.time_zone to.zone) ++ flat_map p.array to.arrays) ++ ending bytes ≡ p.type_words to.word ++ behind to bytes = simp append_assoc in
      let all = subst (λ ps. Run ps d now next) texts run.1.1 in
      let fits = both (p.size_fits (p.plain_type to.word) to.size) (p.zone_fits (p.plain_type to.word) to.zone) run.1.0 in
      words_typed to to.word bytes d now next all fits.0 ∙ typed_made d to bytes x now next form f run
