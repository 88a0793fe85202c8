-- Every expression is read as it is spelled, where what stands in its brackets is.
use Rattle.std.proofs.Common.{ℕ, arith}
use Rattle.sq_syntax.specs.declared.query.Query.{Query}
use Rattle.sq_grammar.specs.Reading.{Parser}
use Rattle.sq_grammar.specs.Levels.{Expr, zoned, collated, signed, converted, operation}
use Rattle.sq_grammar.specs.Tests.{ranged, related, testing}
use Rattle.sq_grammar.specs.Primaries.{subscripted, above_tests, expression}
use Rattle.sq_grammar.proofs.Complete.{Reads}
use Rattle.sq_grammar.proofs.Lists.{Inside, Looks}
use Rattle.sq_grammar.proofs.Begins.{Starts, starts_signed, converted_starts, zone_operand_starts, operation_starts, above_starts, ranged_starts, test_starts}
use Rattle.sq_grammar.proofs.Affixes.{reads_converted, reads_signed, reads_collated, reads_negated}
use Rattle.sq_grammar.proofs.Joints.{reads_zoned, reads_conjunction, reads_disjunction}
use Rattle.sq_grammar.proofs.Operations.{reads_operation}
use Rattle.sq_grammar.proofs.Ranges.{reads_ranged}
use Rattle.sq_grammar.proofs.Relations.{reads_related}
use Rattle.sq_grammar.proofs.Testing.{reads_testing}
use Rattle.sq_grammar.proofs.Subscripts.{reads_subscripted}
use Rattle.sq_grammar.proofs.ReadPrimaries.{reads_primary}

module _ (d : ℕ) (nested : Parser Expr) (inner : Parser Query) (i : Inside d nested inner) (looks : Looks) where
  abbrev at_zones : Parser Expr
  at_zones = zoned (collated (signed (converted (subscripted nested inner))))

  read_zones : Reads d 10 at_zones
  read_zones =
      reads_zoned d (collated (signed (converted (subscripted nested inner))))
      (reads_collated d (signed (converted (subscripted nested inner)))
      (reads_signed d (converted (subscripted nested inner))
      (reads_converted d (subscripted nested inner) (reads_subscripted d nested inner i (reads_primary d nested inner i looks))) (converted_starts nested inner)))

  starts_zones : Starts starts_signed at_zones
  starts_zones = zone_operand_starts nested inner

  starts_powers : Starts starts_signed (operation 9 at_zones)
  starts_powers = operation_starts nested inner 9 at_zones starts_zones

  starts_products : Starts starts_signed (operation 8 (operation 9 at_zones))
  starts_products = operation_starts nested inner 8 (operation 9 at_zones) starts_powers

  starts_sums : Starts starts_signed (operation 7 (operation 8 (operation 9 at_zones)))
  starts_sums = operation_starts nested inner 7 (operation 8 (operation 9 at_zones)) starts_products

  read_above : Reads d 6 (above_tests nested inner)
  read_above =
      reads_operation d 6 (operation 7 (operation 8 (operation 9 at_zones))) (omega arith, omega arith)
      (reads_operation d 7 (operation 8 (operation 9 at_zones)) (omega arith, omega arith)
      (reads_operation d 8 (operation 9 at_zones) (omega arith, omega arith)
      (reads_operation d 9 at_zones (omega arith, omega arith) read_zones starts_zones) starts_powers) starts_products) starts_sums

  abbrev at_ranges : Parser Expr
  at_ranges = ranged nested inner (above_tests nested inner)

  read_ranges : Reads d 5 at_ranges
  read_ranges = reads_ranged d nested inner i looks (above_tests nested inner) read_above (above_starts nested inner)

  read_relations : Reads d 4 (related nested inner at_ranges)
  read_relations = reads_related d nested inner i looks at_ranges read_ranges (ranged_starts nested inner (above_tests nested inner) (above_starts nested inner))

  pub reads_expression : Reads d 0 (expression nested inner)
  unfolding expression
  reads_expression =
      reads_disjunction d _ (reads_conjunction d _ (reads_negated d (testing (related nested inner at_ranges)) (reads_testing d (related nested inner at_ranges) read_relations) (test_starts nested inner)))
