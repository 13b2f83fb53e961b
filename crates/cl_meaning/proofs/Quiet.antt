-- Between two steps there are finitely many moves: a number falls with each move that is no step.
use Rattle.std.proofs.Common.{◌≡◌, ℕ, ◌+◌, ◌≤◌, List, [], ◌∷◌, ◌++◌, Option, Some, None, refl, ap, arith, append_assoc}
use Rattle.cl_types.specs.declared.types.ClType.{ClType}
use Rattle.cl_tree.specs.Shapes.{shape_of}
use Rattle.cl_meaning.specs.Code.{Expr, Stmt, Stmts, NoStmt, AndStmt, Sections, NoSection, AndSection, Label, Code}
use Rattle.cl_meaning.specs.Code as code
use Rattle.cl_meaning.specs.Operations.{Push}
use Rattle.cl_meaning.specs.Tasks.{Act, Leave, Decide, SelectSection, Test, Loop, LoopOnce, Continue, Task, Step, Quiet, quiet, steps}
use Rattle.cl_meaning.specs.Expressions.{total, uses, drops, may_drop}
use Rattle.cl_meaning.specs.Statements.{stmt_tasks, stmts_tasks, sections_tasks, body_tasks, test_tasks, fallen, function_tasks}
use Rattle.cl_meaning.specs.States.{Around, InLoop, InSwitch, Caller, Item}
use Rattle.cl_meaning.proofs.Loops.{IsBody, HasBodies, AllHaveBodies, SectionsHaveBodies}
use Rattle.cl_meaning.proofs.Plain.{room, Ways, extra, lead, IsPlain, Each, each_append, each_of, lead_append, steps_fine}
use Rattle.cl_meaning.proofs.Operands.{uses_fine, drops_fine}

-- ---- the measure

-- what `break` and `continue` lead to, where a return leads to so many
abbrev pub jumps : List Around → ℕ → ℕ × ℕ
jumps [] leaves = (0, 0)
jumps (InLoop again behind ∷ rest) leaves =
    let breaks = lead (record { breaks = (jumps rest leaves).0; continues = (jumps rest leaves).1; leaves = leaves }) behind in
    (breaks, lead (record { breaks = breaks; continues = 0; leaves = leaves }) again)
jumps (InSwitch behind ∷ rest) leaves = (lead (record { breaks = (jumps rest leaves).0; continues = (jumps rest leaves).1; leaves = leaves }) behind, (jumps rest leaves).1)

abbrev pub ways : List Around → ℕ → Ways
ways around leaves = record { breaks = (jumps around leaves).0; continues = (jumps around leaves).1; leaves = leaves }

abbrev pub returned : List Caller → ℕ
returned [] = 0
returned (c ∷ cs) = lead (ways c.around (returned cs)) c.todo

-- the most moves that an item makes before its next step
abbrev pub quiet_left : Item → ℕ
quiet_left i = lead (ways i.around (returned i.callers)) i.todo

-- ---- the invariant

-- the statements in an act have bodies in their loops, and so has the loop that it is of
abbrev pub IsSteadyAct : Act → Type 0
IsSteadyAct (Decide on_true on_false) = AllHaveBodies on_true × AllHaveBodies on_false
IsSteadyAct (SelectSection sections) = SectionsHaveBodies sections
IsSteadyAct (Test body) = IsBody body × AllHaveBodies body
IsSteadyAct (Loop test next body) = IsBody body × AllHaveBodies body
IsSteadyAct (LoopOnce body test) = IsBody body × AllHaveBodies body
IsSteadyAct _ = Unit {0}

abbrev pub IsRound : Act → Type 0
IsRound Continue = ⊥
IsRound _ = Unit {0}

abbrev pub AreSteady : List Around → Type 0
AreSteady [] = Unit {0}
AreSteady (InLoop again behind ∷ rest) = Each IsSteadyAct again × Each IsRound again × Each IsSteadyAct behind × AreSteady rest
AreSteady (InSwitch behind ∷ rest) = Each IsSteadyAct behind × AreSteady rest

abbrev pub CallersSteady : List Caller → Type 0
CallersSteady [] = Unit {0}
CallersSteady (c ∷ cs) = Each IsSteadyAct c.todo × AreSteady c.around × CallersSteady cs

-- What holds of an item in all states that it comes to.
pub record IsSteady (i : Item) : Type 0 where
  pub todo : Each IsSteadyAct i.todo
  pub around : AreSteady i.around
  pub callers : CallersSteady i.callers

-- ---- lists of tasks

plain_steady : (a : Act) → IsPlain a → IsSteadyAct a
plain_steady (Decide on_true on_false) h = absurd h
plain_steady (SelectSection sections) h = absurd h
plain_steady (Test body) h = absurd h
plain_steady (Loop test next body) h = absurd h
plain_steady (LoopOnce body test) h = absurd h
plain_steady _ h = tt

plain_round : (a : Act) → IsPlain a → IsRound a
plain_round Continue h = absurd h
plain_round _ h = tt

pub steady : (ts us : List Task) → Each IsPlain ts → Each IsSteadyAct us → Each IsSteadyAct (ts ++ us)
steady ts us h k = each_append IsSteadyAct ts us (each_of IsPlain IsSteadyAct plain_steady ts h) k

pub round : (ts us : List Task) → Each IsPlain ts → Each IsRound us → Each IsRound (ts ++ us)
round ts us h k = each_append IsRound ts us (each_of IsPlain IsRound plain_round ts h) k

-- where a list doesn't go on by `continue`, it doesn't matter what that leads to
round_extra : (breaks n leaves : ℕ) (a : Act) → IsRound a → extra (record { breaks = breaks; continues = n; leaves = leaves }) a ≡ extra (record { breaks = breaks; continues = 0; leaves = leaves }) a
round_extra breaks n leaves Continue h = absurd h
round_extra breaks n leaves _ h = refl

pub round_lead : (breaks n leaves : ℕ) (ts : List Task) → Each IsRound ts → lead (record { breaks = breaks; continues = n; leaves = leaves }) ts ≡ lead (record { breaks = breaks; continues = 0; leaves = leaves }) ts
round_lead breaks n leaves [] h = refl
round_lead breaks n leaves (Step a ∷ ts) h = refl
round_lead breaks n leaves (Quiet a ∷ ts) h = let e = round_extra breaks n leaves a h.0 in let r = round_lead breaks n leaves ts h.1 in omega (arith, e, r)

module _ (cs : List ClType) where
  uses_before : (e : Expr) (us : List Task) → Each IsSteadyAct us → Each IsSteadyAct (uses cs e ++ us)
  uses_before e us h = steady (uses cs e) us (uses_fine cs e).plain h

  may_drop_plain : (e : Option Expr) → Each IsPlain (may_drop cs e)
  may_drop_plain None = tt
  may_drop_plain (Some e) = (drops_fine cs e).plain

  mutual
    pub stmt_steady : (s : Stmt) → HasBodies s → Each IsSteadyAct (stmt_tasks cs s)
    stmt_steady (code.Block ss) h = (tt, stmts_steady ss h)
    stmt_steady (code.Declare k) h = (tt, (tt, tt))
    stmt_steady (code.Initialise k e) h = (tt, uses_before e _ (tt, tt))
    stmt_steady (code.Evaluate e) h = (tt, each_of IsPlain IsSteadyAct plain_steady (drops cs e) (drops_fine cs e).plain)
    stmt_steady (code.If test on_true on_false) h = (tt, uses_before test _ (h, tt))
    stmt_steady (code.While test body) h = (tt, (h, tt))
    stmt_steady (code.Do body test) h = (tt, (h, tt))
    stmt_steady (code.For declarations first test next body) h =
        (tt, each_append IsSteadyAct (stmts_tasks cs declarations) _ (stmts_steady declarations h.0) (steady (may_drop cs first) _ (may_drop_plain first) ((h.1, h.2), tt)))
    stmt_steady (code.Switch on sections) h = (tt, uses_before on _ (h, tt))
    stmt_steady code.Break h = (tt, (tt, tt))
    stmt_steady code.Continue h = (tt, (tt, tt))
    stmt_steady (code.Return None) h = (tt, (tt, (tt, tt)))
    stmt_steady (code.Return (Some e)) h = (tt, uses_before e _ (tt, tt))
    stmt_steady code.Empty h = (tt, tt)

    pub stmts_steady : (ss : Stmts) → AllHaveBodies ss → Each IsSteadyAct (stmts_tasks cs ss)
    stmts_steady NoStmt h = tt
    stmts_steady (AndStmt s ss) h = each_append IsSteadyAct (stmt_tasks cs s) (stmts_tasks cs ss) (stmt_steady s h.0) (stmts_steady ss h.1)

  pub sections_steady : (sections : Sections) → SectionsHaveBodies sections → Each IsSteadyAct (sections_tasks cs sections)
  sections_steady NoSection h = tt
  sections_steady (AndSection labels body rest) h = each_append IsSteadyAct (stmts_tasks cs body) (sections_tasks cs rest) (stmts_steady body h.0) (sections_steady rest h.1)

  pub body_steady : (body : Stmts) → AllHaveBodies body → Each IsSteadyAct (body_tasks cs body)
  body_steady body h = each_append IsSteadyAct (stmts_tasks cs body) _ (stmts_steady body h) (tt, tt)

  pub test_steady : (test : Expr) (body : Stmts) → IsBody body × AllHaveBodies body → Each IsSteadyAct (test_tasks cs test body)
  test_steady test body h = uses_before test _ (h, tt)

  pub again_steady : (next : Option Expr) (test : Expr) (body : Stmts) → IsBody body × AllHaveBodies body → Each IsSteadyAct (may_drop cs next ++ test_tasks cs test body)
  again_steady next test body h = steady (may_drop cs next) _ (may_drop_plain next) (test_steady test body h)

  pub test_round : (test : Expr) (body : Stmts) → Each IsRound (test_tasks cs test body)
  test_round test body = round (uses cs test) _ (uses_fine cs test).plain (tt, tt)

  pub again_round : (next : Option Expr) (test : Expr) (body : Stmts) → Each IsRound (may_drop cs next ++ test_tasks cs test body)
  again_round next test body = round (may_drop cs next) _ (may_drop_plain next) (test_round test body)

  pub function_steady : (f : Code) → HasBodies f.body → Each IsSteadyAct (function_tasks cs f)
  function_steady f h = steady (steps (total cs f.params)) _ (steps_fine _).plain (each_append IsSteadyAct (stmt_tasks cs f.body) _ (stmt_steady f.body h) (tt, (tt, tt)))

  -- ---- what comes first

  -- a statement begins with a step
  begins : (w : Ways) (s : Stmt) (us : List Task) → lead w (stmt_tasks cs s ++ us) ≡ 0
  begins w (code.Return None) us = refl
  begins w (code.Return (Some e)) us = refl
  begins w (code.Block ss) us = refl
  begins w _ us = refl

  begins_any : (w : Ways) (s : Stmt) (ts us : List Task) → lead w ((stmt_tasks cs s ++ ts) ++ us) ≡ 0
  begins_any w (code.Return None) ts us = refl
  begins_any w (code.Return (Some e)) ts us = refl
  begins_any w (code.Block ss) ts us = refl
  begins_any w _ ts us = refl

  pub stmts_lead : (w : Ways) (ss : Stmts) (us : List Task) → lead w (stmts_tasks cs ss ++ us) ≤ lead w us
  stmts_lead w NoStmt us = omega arith
  stmts_lead w (AndStmt s ss) us = let e = begins_any w s (stmts_tasks cs ss) us in omega (arith, e)

  pub body_lead : (w : Ways) (ss : Stmts) → IsBody ss → lead w (body_tasks cs ss) ≡ 0
  body_lead w NoStmt h = absurd h
  body_lead w (AndStmt s ss) h = begins_any w s (stmts_tasks cs ss) _

  pub sections_lead : (w : Ways) (sections : Sections) (us : List Task) → lead w (sections_tasks cs sections ++ us) ≤ lead w us
  sections_lead w NoSection us = omega arith
  sections_lead w (AndSection labels body rest) us =
      let a = stmts_lead w body (sections_tasks cs rest ++ us) in
      let b = sections_lead w rest us in
      let e = ap (lead w) (append_assoc (stmts_tasks cs body) (sections_tasks cs rest) us) in
      omega (arith, a, b, e)

  pub uses_lead : (w : Ways) (e : Expr) (us : List Task) → lead w (uses cs e ++ us) ≤ room e + lead w us
  uses_lead w e us = let a = lead_append w (uses cs e) us in let b = (uses_fine cs e).bound w in omega (arith, a, b)

  pub steps_lead : (w : Ways) (n : ℕ) (us : List Task) → lead w (steps n ++ us) ≤ lead w us
  steps_lead w n us = let a = lead_append w (steps n) us in let b = (steps_fine n).bound w in omega (arith, a, b)

  pub function_lead : (w : Ways) (f : Code) → lead w (function_tasks cs f) ≡ 0
  function_lead w f =
      let a = steps_lead w (total cs f.params) (stmt_tasks cs f.body ++ quiet (Push (fallen cs (shape_of cs f.result))) ∷ Quiet Leave ∷ []) in
      let b = begins w f.body (quiet (Push (fallen cs (shape_of cs f.result))) ∷ Quiet Leave ∷ []) in
      omega (arith, a, b)
