-- One of the symbols that are listed.
use Rattle.std.proofs.Common.{◌≡◌, ◌⊎◌, inl, inr, true, refl}
use Rattle.sq_syntax.specs.declared.symbol.Symbol.{Symbol}
use Rattle.sq_syntax.specs.declared.symbol.Symbol.TheVariants as s
use Rattle.sq_syntax.specs.Symbols.{is_free}
use Rattle.sq_lexemes.proofs.words.is_free.Goals as goal

listed : (x : Symbol) → (x ≡ s.Arg) ⊎ ((x ≡ s.At) ⊎ ((x ≡ s.By) ⊎ ((x ≡ s.Character) ⊎ ((x ≡ s.Coalesce) ⊎ ((x ≡ s.Double) ⊎ ((x ≡ s.Extract) ⊎ ((x ≡ s.Filter) ⊎ ((x ≡ s.First) ⊎ ((x ≡ s.Greatest) ⊎ ((x ≡ s.Key) ⊎ ((x ≡ s.Last) ⊎ ((x ≡ s.Least) ⊎ ((x ≡ s.Locked) ⊎ ((x ≡ s.Materialized) ⊎ ((x ≡ s.Narg) ⊎ ((x ≡ s.No) ⊎ ((x ≡ s.NoWait) ⊎ ((x ≡ s.NullIf) ⊎ ((x ≡ s.Nulls) ⊎ ((x ≡ s.Of) ⊎ ((x ≡ s.Precision) ⊎ ((x ≡ s.Row) ⊎ ((x ≡ s.Rows) ⊎ ((x ≡ s.Share) ⊎ ((x ≡ s.Skip) ⊎ ((x ≡ s.Slice) ⊎ ((x ≡ s.Sqlc) ⊎ ((x ≡ s.Time) ⊎ ((x ≡ s.Unknown) ⊎ ((x ≡ s.Update) ⊎ ((x ≡ s.Varying) ⊎ ((x ≡ s.Without) ⊎ (x ≡ s.Zone))))))))))))))))))))))))))))))))) → true ≡ is_free x
listed x (inl h) = rw h refl
listed x (inr (inl h)) = rw h refl
listed x (inr (inr (inl h))) = rw h refl
listed x (inr (inr (inr (inl h)))) = rw h refl
listed x (inr (inr (inr (inr (inl h))))) = rw h refl
listed x (inr (inr (inr (inr (inr (inl h)))))) = rw h refl
listed x (inr (inr (inr (inr (inr (inr (inl h))))))) = rw h refl
listed x (inr (inr (inr (inr (inr (inr (inr (inl h)))))))) = rw h refl
listed x (inr (inr (inr (inr (inr (inr (inr (inr (inl h))))))))) = rw h refl
listed x (inr (inr (inr (inr (inr (inr (inr (inr (inr (inl h)))))))))) = rw h refl
listed x (inr (inr (inr (inr (inr (inr (inr (inr (inr (inr (inl h))))))))))) = rw h refl
listed x (inr (inr (inr (inr (inr (inr (inr (inr (inr (inr (inr (inl h)))))))))))) = rw h refl
listed x (inr (inr (inr (inr (inr (inr (inr (inr (inr (inr (inr (inr (inl h))))))))))))) = rw h refl
listed x (inr (inr (inr (inr (inr (inr (inr (inr (inr (inr (inr (inr (inr (inl h)))))))))))))) = rw h refl
listed x (inr (inr (inr (inr (inr (inr (inr (inr (inr (inr (inr (inr (inr (inr (inl h))))))))))))))) = rw h refl
listed x (inr (inr (inr (inr (inr (inr (inr (inr (inr (inr (inr (inr (inr (inr (inr (inl h)))))))))))))))) = rw h refl
listed x (inr (inr (inr (inr (inr (inr (inr (inr (inr (inr (inr (inr (inr (inr (inr (inr (inl h))))))))))))))))) = rw h refl
listed x (inr (inr (inr (inr (inr (inr (inr (inr (inr (inr (inr (inr (inr (inr (inr (inr (inr (inl h)))))))))))))))))) = rw h refl
listed x (inr (inr (inr (inr (inr (inr (inr (inr (inr (inr (inr (inr (inr (inr (inr (inr (inr (inr (inl h))))))))))))))))))) = rw h refl
listed x (inr (inr (inr (inr (inr (inr (inr (inr (inr (inr (inr (inr (inr (inr (inr (inr (inr (inr (inr (inl h)))))))))))))))))))) = rw h refl
listed x (inr (inr (inr (inr (inr (inr (inr (inr (inr (inr (inr (inr (inr (inr (inr (inr (inr (inr (inr (inr (inl h))))))))))))))))))))) = rw h refl
listed x (inr (inr (inr (inr (inr (inr (inr (inr (inr (inr (inr (inr (inr (inr (inr (inr (inr (inr (inr (inr (inr (inl h)))))))))))))))))))))) = rw h refl
listed x (inr (inr (inr (inr (inr (inr (inr (inr (inr (inr (inr (inr (inr (inr (inr (inr (inr (inr (inr (inr (inr (inr (inl h))))))))))))))))))))))) = rw h refl
listed x (inr (inr (inr (inr (inr (inr (inr (inr (inr (inr (inr (inr (inr (inr (inr (inr (inr (inr (inr (inr (inr (inr (inr (inl h)))))))))))))))))))))))) = rw h refl
listed x (inr (inr (inr (inr (inr (inr (inr (inr (inr (inr (inr (inr (inr (inr (inr (inr (inr (inr (inr (inr (inr (inr (inr (inr (inl h))))))))))))))))))))))))) = rw h refl
listed x (inr (inr (inr (inr (inr (inr (inr (inr (inr (inr (inr (inr (inr (inr (inr (inr (inr (inr (inr (inr (inr (inr (inr (inr (inr (inl h)))))))))))))))))))))))))) = rw h refl
listed x (inr (inr (inr (inr (inr (inr (inr (inr (inr (inr (inr (inr (inr (inr (inr (inr (inr (inr (inr (inr (inr (inr (inr (inr (inr (inr (inl h))))))))))))))))))))))))))) = rw h refl
listed x (inr (inr (inr (inr (inr (inr (inr (inr (inr (inr (inr (inr (inr (inr (inr (inr (inr (inr (inr (inr (inr (inr (inr (inr (inr (inr (inr (inl h)))))))))))))))))))))))))))) = rw h refl
listed x (inr (inr (inr (inr (inr (inr (inr (inr (inr (inr (inr (inr (inr (inr (inr (inr (inr (inr (inr (inr (inr (inr (inr (inr (inr (inr (inr (inr (inl h))))))))))))))))))))))))))))) = rw h refl
listed x (inr (inr (inr (inr (inr (inr (inr (inr (inr (inr (inr (inr (inr (inr (inr (inr (inr (inr (inr (inr (inr (inr (inr (inr (inr (inr (inr (inr (inr (inl h)))))))))))))))))))))))))))))) = rw h refl
listed x (inr (inr (inr (inr (inr (inr (inr (inr (inr (inr (inr (inr (inr (inr (inr (inr (inr (inr (inr (inr (inr (inr (inr (inr (inr (inr (inr (inr (inr (inr (inl h))))))))))))))))))))))))))))))) = rw h refl
listed x (inr (inr (inr (inr (inr (inr (inr (inr (inr (inr (inr (inr (inr (inr (inr (inr (inr (inr (inr (inr (inr (inr (inr (inr (inr (inr (inr (inr (inr (inr (inr (inl h)))))))))))))))))))))))))))))))) = rw h refl
listed x (inr (inr (inr (inr (inr (inr (inr (inr (inr (inr (inr (inr (inr (inr (inr (inr (inr (inr (inr (inr (inr (inr (inr (inr (inr (inr (inr (inr (inr (inr (inr (inr (inl h))))))))))))))))))))))))))))))))) = rw h refl
listed x (inr (inr (inr (inr (inr (inr (inr (inr (inr (inr (inr (inr (inr (inr (inr (inr (inr (inr (inr (inr (inr (inr (inr (inr (inr (inr (inr (inr (inr (inr (inr (inr (inr h))))))))))))))))))))))))))))))))) = rw h refl

pub returns-in-Arg : goal.returns-in-Arg
returns-in-Arg c = listed c.args.symbol c.in-Arg.is
