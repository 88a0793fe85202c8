use Rattle.sq_migrate.proofs.replaying.replay_one.Goals as goal

pub returns-in-CreateSchema : goal.returns-in-CreateSchema
returns-in-CreateSchema c = rw c.in-CreateSchema.is (c.do_asked.ensures _ c.schema_asked-asked.ensures)

pub returns-in-CreateTable : goal.returns-in-CreateTable
returns-in-CreateTable c = rw c.in-CreateTable.is (c.do_asked-in-CreateTable.ensures _ c.table_asked-asked.ensures)

pub returns-in-CreateType : goal.returns-in-CreateType
returns-in-CreateType c = rw c.in-CreateType.is (c.do_asked-in-CreateType.ensures _ c.enum_asked-asked.ensures)

pub returns-in-CreateDomain : goal.returns-in-CreateDomain
returns-in-CreateDomain c = rw c.in-CreateDomain.is (c.do_asked-in-CreateDomain.ensures _ c.domain_asked-asked.ensures)

pub returns-in-AlterType : goal.returns-in-AlterType
returns-in-AlterType c = rw c.in-AlterType.is (c.do_if_any.ensures _ c.type_change_asked-asked.ensures)
