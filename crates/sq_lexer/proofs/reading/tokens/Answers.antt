use Rattle.std.proofs.Common.{rules, Err}
use Rattle.sq_syntax.specs.Tokens.{TokensOf}
use Rattle.sq_lexer.proofs.ListLemmas.{listed}
use Rattle.sq_lexer.proofs.reading.tokens.Goals as goal

pub returns-in-Ok-clause-list : goal.returns-in-Ok-clause-list
returns-in-Ok-clause-list c =
    let meant : TokensOf c.args.file c.args.bytes.now c.text_tokens.result = search rules in
    listed c.args.file c.args.bytes.now c.text_tokens.result meant

pub returns-in-Err-clause-list : goal.returns-in-Err-clause-list
returns-in-Err-clause-list c =
    let meant : TokensOf c.args.file c.args.bytes.now (Err c.ill_formed.result) = search rules in
    listed c.args.file c.args.bytes.now (Err c.ill_formed.result) meant
