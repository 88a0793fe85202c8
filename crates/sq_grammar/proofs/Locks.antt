-- The locks of a query, and the words behind WITH and of joins, are read as they are spelled.
use Rattle.std.proofs.Common.{◌≡◌, ℕ, Bool, false, List, [], ◌∷◌, ◌++◌, refl, subst, ◌∙◌, arith, append_assoc}
use Rattle.std.specs.Prelude.{flat_map, ◌||◌}
use Rattle.sq_syntax.specs.declared.symbol.Symbol.{Symbol}
use Rattle.sq_syntax.specs.declared.symbol.Symbol.TheVariants as s
use Rattle.sq_syntax.specs.declared.name.Identifier.{Identifier}
use Rattle.sq_syntax.specs.declared.query.Lock.{Lock}
use Rattle.sq_syntax.specs.declared.query.Strength.{Strength}
use Rattle.sq_syntax.specs.declared.query.Strength.TheVariants as strength_kind
use Rattle.sq_syntax.specs.declared.query.Waiting.{Waiting}
use Rattle.sq_syntax.specs.declared.query.Waiting.TheVariants as waiting_kind
use Rattle.sq_syntax.specs.Facts.{Stream, Piece}
use Rattle.sq_syntax.specs.QueryPieces as f
use Rattle.sq_grammar.specs.Reading.{Parser, ◌>>=◌, ◌>>◌, pure, choose, sees, expect, same, many}
use Rattle.sq_grammar.specs.Queries.{names, strength, waiting, lock}
use Rattle.sq_grammar.proofs.Runs.{Run}
use Rattle.sq_grammar.proofs.Complete.{step, says_expect, Item}
use Rattle.sq_grammar.proofs.Chains.{Gives, many_reads}
use Rattle.sq_grammar.proofs.ReadNames.{Lacks, chosen, passed}
use Rattle.sq_grammar.proofs.ReadTypes.{other_symbol, that_symbol}
use Rattle.sq_grammar.proofs.Aliases.{neither, neither_of, names_read}

-- ---- locks

abbrev by_key : Parser Strength
by_key = expect s.Key >> (expect s.Share >> pure strength_kind.KeyShare)

abbrev by_share : Parser Strength
by_share = choose (sees s.Share) (expect s.Share >> pure strength_kind.Share) by_key

abbrev no_key : Parser Strength
no_key = expect s.No >> (expect s.Key >> (expect s.Update >> pure strength_kind.NoKeyUpdate))

abbrev by_no : Parser Strength
by_no = choose (sees s.No) no_key by_share

abbrev update : Parser Strength
update = expect s.Update >> pure strength_kind.Update

strength_read : (d : ℕ) (x : Strength) (rest : List Piece) (now next : Stream) → Run (f.strength_words x ++ rest) d now next → Gives (strength now) x rest d next
unfolding strength same
strength_read d strength_kind.Update rest now next run = (
  run.0,
  chosen (sees s.Update) update by_no now (that_symbol s.Update now run.0 run.1)
      ∙ step (expect s.Update) (λ _. pure strength_kind.Update) now run.0 tt (says_expect s.Update now run.0 run.1),
  run.3,
)
strength_read d strength_kind.NoKeyUpdate rest now next run =
    let u = run.0 in
    let v = run.3.0 in
    let w = run.3.3.0 in (
      w,
      passed (sees s.Update) update by_no now (other_symbol s.Update s.No now u run.1 refl)
          ∙ chosen (sees s.No) no_key by_share now (that_symbol s.No now u run.1)
          ∙ step (expect s.No) (λ _. expect s.Key >> (expect s.Update >> pure strength_kind.NoKeyUpdate)) now u tt (says_expect s.No now u run.1)
          ∙ step (expect s.Key) (λ _. expect s.Update >> pure strength_kind.NoKeyUpdate) u v tt (says_expect s.Key u v run.3.1)
          ∙ step (expect s.Update) (λ _. pure strength_kind.NoKeyUpdate) v w tt (says_expect s.Update v w run.3.3.1),
      run.3.3.3,
    )
strength_read d strength_kind.Share rest now next run = (
  run.0,
  passed (sees s.Update) update by_no now (other_symbol s.Update s.Share now run.0 run.1 refl)
      ∙ passed (sees s.No) no_key by_share now (other_symbol s.No s.Share now run.0 run.1 refl)
      ∙ chosen (sees s.Share) (expect s.Share >> pure strength_kind.Share) by_key now (that_symbol s.Share now run.0 run.1)
      ∙ step (expect s.Share) (λ _. pure strength_kind.Share) now run.0 tt (says_expect s.Share now run.0 run.1),
  run.3,
)
strength_read d strength_kind.KeyShare rest now next run =
    let u = run.0 in
    let v = run.3.0 in (
      v,
      passed (sees s.Update) update by_no now (other_symbol s.Update s.Key now u run.1 refl)
          ∙ passed (sees s.No) no_key by_share now (other_symbol s.No s.Key now u run.1 refl)
          ∙ passed (sees s.Share) (expect s.Share >> pure strength_kind.Share) by_key now (other_symbol s.Share s.Key now u run.1 refl)
          ∙ step (expect s.Key) (λ _. expect s.Share >> pure strength_kind.KeyShare) now u tt (says_expect s.Key now u run.1)
          ∙ step (expect s.Share) (λ _. pure strength_kind.KeyShare) u v tt (says_expect s.Share u v run.3.1),
      run.3.3,
    )

abbrev skip_locked : Parser Waiting
skip_locked = expect s.Skip >> (expect s.Locked >> pure waiting_kind.SkipLocked)

abbrev no_wait : Parser Waiting
no_wait = expect s.NoWait >> pure waiting_kind.NoWait

waiting_read : (d : ℕ) (x : Waiting) (rest : List Piece) (now next : Stream) → Run (f.waiting_words x ++ rest) d now next → Lacks s.NoWait rest d next → Lacks s.Skip rest d next → Gives (waiting now) x rest d next
unfolding waiting same
waiting_read d waiting_kind.Unsaid rest now next run wait skip = (
  now,
  passed (sees s.NoWait) no_wait (choose (sees s.Skip) skip_locked (pure waiting_kind.Unsaid)) now (wait now run) ∙ passed (sees s.Skip) skip_locked (pure waiting_kind.Unsaid) now (skip now run),
  run,
)
waiting_read d waiting_kind.NoWait rest now next run wait skip = (
  run.0,
  chosen (sees s.NoWait) no_wait (choose (sees s.Skip) skip_locked (pure waiting_kind.Unsaid)) now (that_symbol s.NoWait now run.0 run.1)
      ∙ step (expect s.NoWait) (λ _. pure waiting_kind.NoWait) now run.0 tt (says_expect s.NoWait now run.0 run.1),
  run.3,
)
waiting_read d waiting_kind.SkipLocked rest now next run wait skip =
    let u = run.0 in
    let v = run.3.0 in (
      v,
      passed (sees s.NoWait) no_wait (choose (sees s.Skip) skip_locked (pure waiting_kind.Unsaid)) now (other_symbol s.NoWait s.Skip now u run.1 refl)
          ∙ chosen (sees s.Skip) skip_locked (pure waiting_kind.Unsaid) now (that_symbol s.Skip now u run.1)
          ∙ step (expect s.Skip) (λ _. expect s.Locked >> pure waiting_kind.SkipLocked) now u tt (says_expect s.Skip now u run.1)
          ∙ step (expect s.Locked) (λ _. pure waiting_kind.SkipLocked) u v tt (says_expect s.Locked u v run.3.1),
      run.3.3,
    )

-- what goes on with a lock
abbrev pub lock_goes_on : Stream → Bool
lock_goes_on now = sees s.Of now || (sees s.Comma now || (sees s.NoWait now || sees s.Skip now))

lock_ends : (u : Stream) → lock_goes_on u ≡ false → (sees s.Of u ≡ false) × (sees s.Comma u ≡ false) × (sees s.NoWait u ≡ false) × (sees s.Skip u ≡ false)
lock_ends u h =
    let a = neither_of (sees s.Of u) (sees s.Comma u || (sees s.NoWait u || sees s.Skip u)) h in
    let b = neither_of (sees s.Comma u) (sees s.NoWait u || sees s.Skip u) a.1 in
    let c = neither_of (sees s.NoWait u) (sees s.Skip u) b.1 in
    (a.0, b.0, c.0, c.1)

past_waiting : (d : ℕ) (x : Waiting) (rest : List Piece) (next : Stream) (k : Symbol) → same s.NoWait k ≡ false → same s.Skip k ≡ false → Lacks k rest d next → Lacks k (f.waiting_words x ++ rest) d next
past_waiting d waiting_kind.Unsaid rest next k a b ends u run = ends u run
past_waiting d waiting_kind.NoWait rest next k a b ends u run = other_symbol k s.NoWait u run.0 run.1 a
past_waiting d waiting_kind.SkipLocked rest next k a b ends u run = other_symbol k s.Skip u run.0 run.1 b

of_read : (d : ℕ) (xs : List Identifier) (rest : List Piece) (now next : Stream) → Run (f.lock_names xs ++ rest) d now next → Lacks s.Of rest d next → Lacks s.Comma rest d next → Gives (choose (sees s.Of) (expect s.Of >> names) (pure []) now) xs rest d next
of_read d [] rest now next run of comma = (now, passed (sees s.Of) (expect s.Of >> names) (pure []) now (of now run), run)
of_read d (x ∷ xs) rest now next run of comma =
    let n = names_read d x xs rest run.0 next run.3 comma in (
      n.0,
      chosen (sees s.Of) (expect s.Of >> names) (pure []) now (that_symbol s.Of now run.0 run.1) ∙ step (expect s.Of) (λ _. names) now run.0 tt (says_expect s.Of now run.0 run.1) ∙ n.1,
      n.2,
    )

lock_read : (d : ℕ) (x : Lock) (rest : List Piece) (now next : Stream) → Run (f.lock x ++ rest) d now next → ((u : Stream) → Run rest d u next → lock_goes_on u ≡ false) → Gives (lock now) x rest d next
unfolding lock same
lock_read d x rest now next run ends =
    let waits = f.waiting_words x.waiting ++ rest in
    let parts = subst (λ ps. Run ps d run.0 next) (append_assoc (f.strength_words x.strength ++ f.lock_names x.of) (f.waiting_words x.waiting) rest ∙ append_assoc (f.strength_words x.strength) (f.lock_names x.of) waits) run.3 in
    let a = strength_read d x.strength (f.lock_names x.of ++ waits) run.0 next parts in
    let b = of_read d x.of waits a.0 next a.2
    (past_waiting d x.waiting rest next s.Of refl refl (λ u r. (lock_ends u (ends u r)).0))
    (past_waiting d x.waiting rest next s.Comma refl refl (λ u r. (lock_ends u (ends u r)).1)) in
    let c = waiting_read d x.waiting rest b.0 next b.2
    (λ u r. (lock_ends u (ends u r)).2)
    (λ u r. (lock_ends u (ends u r)).3) in (
      c.0,
      step (expect s.For) (λ _. strength >>= (λ y. choose (sees s.Of) (expect s.Of >> names) (pure []) >>= (λ of. waiting >>= (λ z. pure (record { strength = y; of = of; waiting = z }))))) now run.0 tt (says_expect s.For now run.0 run.1)
          ∙ step strength (λ y. choose (sees s.Of) (expect s.Of >> names) (pure []) >>= (λ of. waiting >>= (λ z. pure (record { strength = y; of = of; waiting = z })))) run.0 a.0 x.strength a.1
          ∙ step (choose (sees s.Of) (expect s.Of >> names) (pure [])) (λ of. waiting >>= (λ z. pure (record { strength = x.strength; of = of; waiting = z }))) a.0 b.0 x.of b.1
          ∙ step waiting (λ z. pure (record { strength = x.strength; of = x.of; waiting = z })) b.0 c.0 x.waiting c.1,
      c.2,
    )

lock_item : (d : ℕ) → Item d (sees s.For) lock f.lock lock_goes_on
unfolding same
lock_item d = record {
  begun = λ x rest now next run stop. that_symbol s.For now run.0 run.1;
  stops = λ x rest now next run.
      neither _ _ (other_symbol s.Of s.For now run.0 run.1 refl) (neither _ _ (other_symbol s.Comma s.For now run.0 run.1 refl) (neither _ _ (other_symbol s.NoWait s.For now run.0 run.1 refl) (other_symbol s.Skip s.For now run.0 run.1 refl)));
  some = λ x. omega arith;
  reads = λ x rest now next run stop. lock_read d x rest now next run stop;
}

pub locks_read : (d : ℕ) (xs : List Lock) (rest : List Piece) (now next : Stream) → Run (flat_map f.lock xs ++ rest) d now next → ((u : Stream) → Run rest d u next → (sees s.For u ≡ false) × (lock_goes_on u ≡ false)) → Gives (many (sees s.For) lock now) xs rest d next
locks_read d xs rest now next run ends = many_reads d (sees s.For) lock f.lock lock_goes_on (lock_item d) xs rest now next run ends
