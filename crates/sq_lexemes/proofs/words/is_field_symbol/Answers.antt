-- One of the symbols that are listed.
use Rattle.std.proofs.Common.{◌≡◌, ◌⊎◌, inl, inr, false, refl}
use Rattle.sq_syntax.specs.declared.symbol.Symbol.{Symbol}
use Rattle.sq_syntax.specs.declared.symbol.Symbol.TheVariants as s
use Rattle.sq_syntax.specs.ExpressionPieces.{is_field_symbol}
use Rattle.sq_lexemes.proofs.words.is_field_symbol.Goals as goal

listed : (x : Symbol) → (x ≡ s.Open) ⊎ ((x ≡ s.Close) ⊎ ((x ≡ s.OpenSquare) ⊎ ((x ≡ s.CloseSquare) ⊎ ((x ≡ s.Comma) ⊎ ((x ≡ s.Semicolon) ⊎ ((x ≡ s.Dot) ⊎ ((x ≡ s.Colons) ⊎ ((x ≡ s.Power) ⊎ ((x ≡ s.Times) ⊎ ((x ≡ s.Divide) ⊎ ((x ≡ s.Modulo) ⊎ ((x ≡ s.Plus) ⊎ ((x ≡ s.Minus) ⊎ ((x ≡ s.Less) ⊎ ((x ≡ s.Greater) ⊎ ((x ≡ s.Equal) ⊎ ((x ≡ s.LessEqual) ⊎ ((x ≡ s.GreaterEqual) ⊎ ((x ≡ s.NotEqual) ⊎ ((x ≡ s.Case) ⊎ (x ≡ s.End))))))))))))))))))))) → false ≡ is_field_symbol x
listed x (inl h) = rw h refl
listed x (inr (inl h)) = rw h refl
listed x (inr (inr (inl h))) = rw h refl
listed x (inr (inr (inr (inl h)))) = rw h refl
listed x (inr (inr (inr (inr (inl h))))) = rw h refl
listed x (inr (inr (inr (inr (inr (inl h)))))) = rw h refl
listed x (inr (inr (inr (inr (inr (inr (inl h))))))) = rw h refl
listed x (inr (inr (inr (inr (inr (inr (inr (inl h)))))))) = rw h refl
listed x (inr (inr (inr (inr (inr (inr (inr (inr (inl h))))))))) = rw h refl
listed x (inr (inr (inr (inr (inr (inr (inr (inr (inr (inl h)))))))))) = rw h refl
listed x (inr (inr (inr (inr (inr (inr (inr (inr (inr (inr (inl h))))))))))) = rw h refl
listed x (inr (inr (inr (inr (inr (inr (inr (inr (inr (inr (inr (inl h)))))))))))) = rw h refl
listed x (inr (inr (inr (inr (inr (inr (inr (inr (inr (inr (inr (inr (inl h))))))))))))) = rw h refl
listed x (inr (inr (inr (inr (inr (inr (inr (inr (inr (inr (inr (inr (inr (inl h)))))))))))))) = rw h refl
listed x (inr (inr (inr (inr (inr (inr (inr (inr (inr (inr (inr (inr (inr (inr (inl h))))))))))))))) = rw h refl
listed x (inr (inr (inr (inr (inr (inr (inr (inr (inr (inr (inr (inr (inr (inr (inr (inl h)))))))))))))))) = rw h refl
listed x (inr (inr (inr (inr (inr (inr (inr (inr (inr (inr (inr (inr (inr (inr (inr (inr (inl h))))))))))))))))) = rw h refl
listed x (inr (inr (inr (inr (inr (inr (inr (inr (inr (inr (inr (inr (inr (inr (inr (inr (inr (inl h)))))))))))))))))) = rw h refl
listed x (inr (inr (inr (inr (inr (inr (inr (inr (inr (inr (inr (inr (inr (inr (inr (inr (inr (inr (inl h))))))))))))))))))) = rw h refl
listed x (inr (inr (inr (inr (inr (inr (inr (inr (inr (inr (inr (inr (inr (inr (inr (inr (inr (inr (inr (inl h)))))))))))))))))))) = rw h refl
listed x (inr (inr (inr (inr (inr (inr (inr (inr (inr (inr (inr (inr (inr (inr (inr (inr (inr (inr (inr (inr (inl h))))))))))))))))))))) = rw h refl
listed x (inr (inr (inr (inr (inr (inr (inr (inr (inr (inr (inr (inr (inr (inr (inr (inr (inr (inr (inr (inr (inr h))))))))))))))))))))) = rw h refl

pub returns-in-Open : goal.returns-in-Open
returns-in-Open c = listed c.args.symbol c.in-Open.is
