use Rattle.cl_parse_expr.proofs.Bases.{struct_name_read, struct_name_tree, struct_refused}
use Rattle.cl_parse_expr.proofs.reader.Reader.struct_name.Goals as goal

pub returns-then-not-is_at-clause-out : goal.returns-then-not-is_at-clause-out
returns-then-not-is_at-clause-out c = struct_refused c.args.self.now c.args.at c.requires.ends c.requires.other c.requires.begins c.if-not-is_at.ensures.stands

pub returns-clause-read : goal.returns-clause-read
returns-clause-read c = struct_name_read c.args.self.now c.args.at c.requires.ends c.requires.other c.requires.begins c.if-not-is_at.ensures.stands

pub returns-clause-tree : goal.returns-clause-tree
returns-clause-tree c = struct_name_tree c.args.self.now c.args.at c.in_ok-name.name c.place-place.result c.requires.begins c.if-not-is_at.ensures.stands c.in_ok-name.ensures c.place-place.ensures
