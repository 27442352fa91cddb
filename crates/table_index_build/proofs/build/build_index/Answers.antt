-- `table_index_build::build::build_index` meets its contract: 4 goes first; then the entries of all rows are made, and written where the table is good.
-- Assumes nothing.
use mathlib.Core.Path.{sym, ◌∙◌}
use Rattle.rules.proofs.Outputs.{refused}
use Rattle.table_index_build.proofs.BuildLaws.{built_past}
use Rattle.table_index_build.proofs.ExtendLaws.{index_records}
use borrow.Author.Rules.{rules}
use Rattle.table_index_build.proofs.build.build_index.Goals as goal

pub returns-then-table : goal.returns-then-table
returns-then-table c = rw (built_past _ c.if-table.true) (refused _ _)

pub put_built-requires : goal.put_built-requires
put_built-requires c =
    (c.if-table.false, search rules, search rules, c.build_by_rows.ensures ∙ sym (index_records _ _))
