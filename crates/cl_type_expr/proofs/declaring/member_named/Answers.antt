use Rattle.std.proofs.Common.{sym, ap, ◌∙◌, [], ◌∷◌, ◌++◌}
use Rattle.cl_ast.specs.declared.expression.Base.TheViews.{out-Declor}
use Rattle.cl_words.specs.Words.{has_member}
use Rattle.cl_make.proofs.Stays.{ready_type_stays}
use Rattle.cl_type_expr.proofs.DeclaredNames.{member_named}
use Rattle.cl_type_expr.proofs.declaring.member_named.Goals as goal

pub returns-in-Ok-clause-ok : goal.returns-in-Ok-clause-ok
returns-in-Ok-clause-ok c =
    let d = out-Declor c.args.named.now in
    member_named c.args.q d.star c.args.lengths d.name c.args.members.now c.new-sketch.result c.contains-repeated.result c.new-sketch.ensures (c.contains-repeated.ensures ∙ ap (λ n. has_member n c.args.members.now) c.as_slice.ensures) (sym c.in_default.ensures)
    c.args.types.now c.declared.new.types c.in-Ok.ty c.push.new.self c.is_table.ensures c.in-Ok.ensures.grows.grown (ready_type_stays c.args.types.now c.declared.new.types c.args.q c.is_table.ensures c.in-Ok.ensures.grows.grown c.requires.type_ready) c.requires.ready c.in-Ok.ensures.ok
    (c.in_ok-push-in-Ok.ensures.ok ∙ ap (λ n. c.args.members.now ++ record { name = n; ty = c.in-Ok.ty } ∷ []) c.as_slice-in-Ok.ensures)
