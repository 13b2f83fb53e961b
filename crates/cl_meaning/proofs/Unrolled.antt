-- The tasks of statements, sections and parameters, one after another: what is left makes the whole.
use Rattle.std.proofs.Common.{◌≡◌, ℕ, ◌+◌, ◌<◌, ◌≤◌, List, ◌++◌, length, get_or, drop, sym, ap, ◌∙◌, append_assoc}
use Rattle.std.proofs.lemmas.List.{at_drop_more, drop_all, append-nil, replicate-append-replicate}
use Rattle.cl_types.specs.declared.types.ClType.{ClType}
use Rattle.cl_types.specs.declared.types.TypeId.{TypeId}
use Rattle.cl_common.specs.Types.{count_at}
use Rattle.cl_meaning.specs.declared.code.Stmt.{Stmt as PlainStmt}
use Rattle.cl_meaning.specs.declared.code.Section.{Section as PlainSection}
use Rattle.cl_meaning.specs.declared.code.Stmt.TheViews.{out-Section}
use Rattle.cl_meaning.specs.declared.code.Stmt.TheFolds.{fold_out-Section}
use Rattle.cl_meaning.specs.Code.{Stmt, Sections, AndSection}
use Rattle.cl_meaning.specs.Expressions.{total}
use Rattle.cl_meaning.specs.Statements.{stmt_tasks, stmts_tasks, sections_tasks}
use Rattle.cl_meaning.specs.Tasks.{Task, Step, Pass, steps}
use Rattle.cl_meaning.specs.Views.{stmt_step, section_step, stmt_by, section_by, stmts_by, sections_by}

pub stmts_more : (cs : List ClType) (ss : List PlainStmt) (k : ℕ) (s : PlainStmt) (so_far new whole : List Task) → so_far ++ stmts_tasks cs (stmts_by (drop k ss)) ≡ whole → k < length ss → s ≡ get_or ss k s → new ≡ so_far ++ stmt_tasks cs (stmt_by s) → new ++ stmts_tasks cs (stmts_by (drop (k + 1) ss)) ≡ whole
stmts_more cs ss k s so_far new whole h below is e =
    let rest = stmts_tasks cs (stmts_by (drop (k + 1) ss)) in
    ap (λ z. z ++ rest) e ∙ append_assoc so_far (stmt_tasks cs (stmt_by s)) rest ∙ ap (λ z. so_far ++ (stmt_tasks cs (stmt_by z) ++ rest)) is ∙ ap (λ z. so_far ++ z) (sym (at_drop_more (λ z. stmts_tasks cs (stmts_by z)) ss k s below)) ∙ h

pub stmts_end : (cs : List ClType) (ss : List PlainStmt) (k : ℕ) (so_far whole : List Task) → so_far ++ stmts_tasks cs (stmts_by (drop k ss)) ≡ whole → length ss ≤ k → so_far ≡ whole
stmts_end cs ss k so_far whole h past = sym (append-nil so_far) ∙ ap (λ z. so_far ++ stmts_tasks cs (stmts_by z)) (sym (drop_all k ss past)) ∙ h

section_out : (s : PlainSection) (rest : Sections) → section_by s rest ≡ AndSection (out-Section s).labels (stmts_by (out-Section s).body.items) rest
section_out s rest = ap (λ f. f rest) (fold_out-Section Stmt (Sections → Sections) stmt_step section_step s)

pub sections_more : (cs : List ClType) (ss : List PlainSection) (k : ℕ) (s : PlainSection) (so_far new whole : List Task) → so_far ++ sections_tasks cs (sections_by (drop k ss)) ≡ whole → k < length ss → s ≡ get_or ss k s → new ≡ so_far ++ stmts_tasks cs (stmts_by (out-Section s).body.items) → new ++ sections_tasks cs (sections_by (drop (k + 1) ss)) ≡ whole
sections_more cs ss k s so_far new whole h below is e =
    let body = stmts_tasks cs (stmts_by (out-Section s).body.items) in
    let others = sections_by (drop (k + 1) ss) in
    let rest = sections_tasks cs others in
    ap (λ z. z ++ rest) e ∙ append_assoc so_far body rest ∙ ap (λ z. so_far ++ sections_tasks cs z) (sym (section_out s others) ∙ ap (λ z. section_by z others) is ∙ sym (at_drop_more sections_by ss k s below)) ∙ h

pub sections_end : (cs : List ClType) (ss : List PlainSection) (k : ℕ) (so_far whole : List Task) → so_far ++ sections_tasks cs (sections_by (drop k ss)) ≡ whole → length ss ≤ k → so_far ≡ whole
sections_end cs ss k so_far whole h past = sym (append-nil so_far) ∙ ap (λ z. so_far ++ sections_tasks cs (sections_by z)) (sym (drop_all k ss past)) ∙ h

pub params_more : (cs : List ClType) (ts : List TypeId) (k : ℕ) (d : TypeId) (count : ℕ) (so_far new whole : List Task) → so_far ++ steps (total cs (drop k ts)) ≡ whole → k < length ts → count ≡ count_at cs (get_or ts k d) → new ≡ so_far ++ steps count → new ++ steps (total cs (drop (k + 1) ts)) ≡ whole
params_more cs ts k d count so_far new whole h below is e =
    let others = total cs (drop (k + 1) ts) in
    ap (λ z. z ++ steps others) e ∙ append_assoc so_far (steps count) (steps others) ∙ ap (λ z. so_far ++ z) (replicate-append-replicate count others (Step Pass) ∙ ap (λ z. steps (z + others)) is ∙ ap steps (sym (at_drop_more (total cs) ts k d below))) ∙ h

pub params_end : (cs : List ClType) (ts : List TypeId) (k : ℕ) (so_far whole : List Task) → so_far ++ steps (total cs (drop k ts)) ≡ whole → length ts ≤ k → so_far ≡ whole
params_end cs ts k so_far whole h past = sym (append-nil so_far) ∙ ap (λ z. so_far ++ steps (total cs z)) (sym (drop_all k ts past)) ∙ h

pub ruleset lists = (stmts_more, stmts_end, sections_more, sections_end, params_more, params_end)
