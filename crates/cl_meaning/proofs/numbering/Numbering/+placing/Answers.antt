use Rattle.std.proofs.Common.{map, sym, ap, ◌∙◌, subst, arith}
use Rattle.cl_tree.specs.declared.statement.TStmtNode.TheOpen as layer
use Rattle.cl_tree.specs.declared.statement.TStmtNode.TheVariants.{rolls-For}
use Rattle.cl_meaning.specs.declared.code.Stmt.TheOpen as made
use Rattle.cl_meaning.specs.declared.code.Stmt.TheVariants.{rolls-For as made-For}
use Rattle.cl_meaning.specs.declared.code.Stmt.TheFolds.{fold-roll-Stmt}
use Rattle.cl_meaning.specs.Code.{Stmt, Sections, numbered, numbered_option, placed_all}
use Rattle.cl_meaning.specs.Views.{IsPair, expr_by, option_by, placed, section_by, section_step, stmt_by, stmt_step, stmts_by}
use Rattle.cl_meaning.proofs.Numberings.{sections_end, stmts_end}
use Rattle.cl_meaning.proofs.Placings.{for_placed, placed_by}
use Rattle.cl_meaning.proofs.numbering.Numbering.+placing.Goals as goal

pub all-returns : goal.all-returns
all-returns t c =
    stmts_end c.args.self.types.now c.args.self.vars.now c.args.stmts.now c.args.n c.loop-stmt.stmt-index c.loop-stmt.next (map stmt_by c.loop-stmt.made.items) c.loop-stmt.invariant (omega arith)

pub sections-returns : goal.sections-returns
sections-returns t c =
    sections_end c.args.self.types.now c.args.self.vars.now c.args.sections.now c.args.n c.loop-section.section-index c.loop-section.next (map section_by c.loop-section.made.items) c.loop-section.invariant (omega arith)

pub stmt-returns-in_ok-body-in-For-2 : goal.stmt-returns-in_ok-body-in-For-2
stmt-returns-in_ok-body-in-For-2 t c =
    let cs = c.args.self.types.now in
    let vars = c.args.self.vars.now in
    let decls = c.in_ok-declarations-in-For.declarations in
    let first = c.in_ok-first-in-For.first in
    let test = c.in_ok-test-in-For.test in
    let next = c.in_ok-next-in-For.next in
    let body = c.in_ok-body-in-For-2.body in
    let declared = subst (λ z. IsPair (stmts_by decls.items) c.in_ok-declarations-in-For.n (placed_all (map (placed cs vars) z) c.args.n)) c.deref-in-For.ensures.value c.in_ok-declarations-in-For.ensures in
    let looped = subst (λ z. IsPair (stmts_by c.in_ok-body-in-For.body.items) c.in_ok-body-in-For.n (placed_all (map (placed cs vars) z) c.in_ok-next-in-For.n)) c.deref-in-For-2.ensures.value c.in_ok-body-in-For.ensures in
    let parts = for_placed (placed_all (map (placed cs vars) c.in-For.decls.items)) (numbered_option cs vars c.in-For.first) (numbered vars c.in-For.cond) (numbered_option cs vars c.in-For.next) (placed_all (map (placed cs vars) c.in-For.body.items)) c.args.n c.in_ok-declarations-in-For.n c.in_ok-first-in-For.n c.in_ok-test-in-For.n c.in_ok-next-in-For.n c.in_ok-body-in-For.n (stmts_by decls.items) (option_by first) (expr_by test) (option_by next) (stmts_by c.in_ok-body-in-For.body.items) (stmts_by body.items) declared c.in_ok-first-in-For.ensures c.in_ok-test-in-For.ensures c.in_ok-next-in-For.ensures looped c.in_ok-body-in-For-2.ensures in
    let whole = placed_by cs vars c.args.stmt.now (layer.For c.in-For.decls c.in-For.first c.in-For.cond c.in-For.next c.in-For.body) c.args.n (c.in-For.is ∙ sym (rolls-For c.in-For.decls c.in-For.first c.in-For.cond c.in-For.next c.in-For.body)) in
    let view = ap stmt_by (sym (made-For decls first test next body)) ∙ fold-roll-Stmt Stmt (Sections → Sections) stmt_step section_step (made.For decls first test next body) in
    (view ∙ parts.0 ∙ sym (ap (λ p. p.0) whole), parts.1 ∙ sym (ap (λ p. p.1) whole))
