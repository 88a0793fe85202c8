-- What is read of the tokens is what they spell.
use Rattle.std.proofs.Common.{◌≡◌, ◌∙◌, sym, refl, List, map, None, Some}
use Rattle.sq_base.specs.declared.code.Code.{Code}
use Rattle.sq_base.specs.declared.code.Code.TheVariants.{Syntax}
use Rattle.sq_syntax.specs.declared.ddl.Ddl.{Ddl}
use Rattle.sq_syntax.specs.declared.token.Token.{Token}
use Rattle.sq_syntax.specs.Schemas.{IsDdl}
use Rattle.sq_syntax.specs.Symbols.{lexeme}
use Rattle.sq_grammar.specs.Schemas.{ddl}
use Rattle.sq_grammar.specs.Whole.{whole as whole_tokens}
use Rattle.sq_grammar.proofs.OneDdl.{ddl_exactly}
use Rattle.sq_lexemes.specs.Whole.{whole}
use Rattle.sq_lexemes.specs.Answers.{Exceeds, Readable, Refuses}
use Rattle.sq_parse_ddl.specs.Answers.{no_height}

same_whole : (tokens : List Token) → whole_tokens ddl tokens ≡ whole ddl (map lexeme tokens)
unfolding whole_tokens
same_whole tokens = refl

pub read : (tokens : List Token) (x : Ddl) → whole ddl (map lexeme tokens) ≡ Some x → IsDdl tokens x
read tokens x found = (ddl_exactly tokens x).0 (same_whole tokens ∙ found)

pub not_read : (tokens : List Token) → whole ddl (map lexeme tokens) ≡ None → (x : Ddl) → IsDdl tokens x → ⊥
not_read tokens none x is =
    let found = (ddl_exactly tokens x).1 is in
    let p : None ≡ Some x = sym none ∙ (sym (same_whole tokens) ∙ found) in
    cc

pub exceeded : (tokens : List Token) (code : Code) → Exceeds tokens code → Refuses IsDdl no_height tokens code
exceeded tokens code h = Refuses.exceeds code h

pub unread : (tokens : List Token) → Readable tokens → whole ddl (map lexeme tokens) ≡ None → Refuses IsDdl no_height tokens Syntax
unread tokens h none = Refuses.no_tree h (not_read tokens none)
