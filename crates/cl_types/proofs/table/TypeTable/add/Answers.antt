use Rattle.std.proofs.Common.{◌≡◌, ◌<◌, ◌^◌, length, ◌∙◌, arith}
use Rattle.cl_types.proofs.Rows.{entries_length, now_more}
use Rattle.cl_types.proofs.Interning.{rows_inserted, entries_new}
use Rattle.cl_types.proofs.table.TypeTable.add.Goals as goal

pub invariant_of-self : goal.invariant_of-self
invariant_of-self c =
    let n = entries_length c.self.inside.rows.entries c.args.self.now c.self.view_is in
    let l = c.len-at.ensures.len in
    let low = c.if-at-ge-MAX_TYPES.false in
    let few : length c.args.self.now < 2 ^ 32 = omega (arith, n, l, low) in
    rows_inserted c.self.inside.rows c.insert.new.self c.args.self.now c.args.ty c.in_ok-row.row c.insert.result c.insert.ensures.entries c.insert.ensures.err c.self.view_is c.self.invariant few c.requires.built c.in_ok-row.ensures c.requires.new

pub returns-in-Ok-clause-number : goal.returns-in-Ok-clause-number
returns-in-Ok-clause-number c =
    let n = entries_length c.self.inside.rows.entries c.args.self.now c.self.view_is in
    (c.len-at.ensures.len ∙ n, now_more c.self.inside.rows.entries c.insert.new.self.entries c.args.self.now c.args.ty c.in_ok-row.row (c.in-Ok.ensures.entries ∙ entries_new c.self.inside.rows c.args.self.now c.args.ty c.in_ok-row.row c.self.view_is c.requires.new) c.self.view_is)
