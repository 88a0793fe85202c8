-- The grammar's parsers of words under one module, for the code.
pub use Rattle.sq_grammar.specs.Statements.{expect_word}
pub use Rattle.sq_grammar.specs.Schemas.{if_exists, if_not_exists, behavior}
