use Rattle.sq_parse_expr.proofs.whole.+parse.Given as goal

abbrev pub decreases-parse : goal.decreases-parse
decreases-parse l = l.depth
