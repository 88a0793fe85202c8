-- What the grammar sees of a token, for the code.
pub use Rattle.sq_syntax.specs.Symbols.{word_reading, sign_reading}
