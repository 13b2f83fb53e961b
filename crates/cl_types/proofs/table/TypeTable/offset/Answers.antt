use Rattle.std.proofs.Common.{arith, rules}
use Rattle.std.proofs.lemmas.Grind.{common_steps}
use Rattle.cl_types.proofs.Measuring.{struct_low, offset_low, offset_found}
use Rattle.cl_types.proofs.table.TypeTable.offset.Goals as goal

pub row-requires : goal.row-requires
row-requires c = struct_low c.args.self.now c.args.t.0 c.args.member c.requires

pub index-requires : goal.index-requires
index-requires c = let l = offset_low c.args.self.now c.args.t.0 c.args.member c.row.result.now c.is_table.ensures.built c.requires c.row.ensures in grind (arith, l, common_steps, rules)

pub returns : goal.returns
returns c = offset_found c.args.self.now c.args.t.0 c.args.member c.row.result.now c.index.result.now c.is_table.ensures.built c.requires c.row.ensures c.index.ensures
