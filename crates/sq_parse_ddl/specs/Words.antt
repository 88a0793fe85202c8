-- The grammar's parsers under one module, for the code.
pub use Rattle.sq_grammar.specs.Queries.{names}
pub use Rattle.sq_grammar.specs.Schemas.{run, some_run, default_run, within}
pub use Rattle.sq_grammar.specs.Schemas.{constraint_name, event, reference_action_words, reaction, reference, generated, check, constraint_form, constraint, constraints}
pub use Rattle.sq_grammar.specs.Schemas.{column, table_constraint_form, table_constraint, element, tail}
pub use Rattle.sq_grammar.specs.Schemas.{create_schema, create_table, create_type, create_domain, drop_schema, dropped_kind, drop_named}
pub use Rattle.sq_grammar.specs.Schemas.{add, drop as drop_action, alter_column, action, rename, change_of_table, alter_table, neighbour, add_value, rename_value, change_of_type, alter_type, ddl}
pub use Rattle.sq_grammar.specs.Whole.{whole}
