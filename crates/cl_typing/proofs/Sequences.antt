-- Statements one after another, and the arms of others.
use Rattle.std.proofs.Common.{◌≡◌, ℕ, ◌+◌, ◌<◌, ◌≤◌, true, false, true≢false, List, [], ◌∷◌, ◌++◌, length, drop, get_or, Result, Ok, Err, refl, sym, ap, ◌∙◌, subst, append_assoc}
use Rattle.std.proofs.lemmas.List.{append-nil}
use Rattle.std.specs.Prelude.{IfOk, IfErr}
use Rattle.std.specs.Global.{Vec}
use Rattle.clv_place.specs.declared.stop.Offence.{Offence}
use Rattle.clv_place.specs.declared.stop.Stop.{Stop}
use Rattle.clv_place.specs.declared.stop.Stop.TheVariants.{Out, NoMemory}
use Rattle.cl_types.specs.declared.types.ClType.{ClType}
use Rattle.cl_types.specs.Table.{IsTable}
use Rattle.cl_builtins.specs.Found.{IsGrown, IsKnown}
use Rattle.cl_builtins.proofs.Growth.{grown_twice, grown_known}
use Rattle.cl_ast.specs.declared.declaration.InitDeclor.{InitDeclor}
use Rattle.cl_ast.specs.declared.expression.Spec.{Spec}
use Rattle.cl_ast.specs.declared.statement.Stmt.{Stmt}
use Rattle.cl_ast.specs.declared.statement.StmtNode.TheVariants as node
use Rattle.cl_ast.specs.declared.statement.StmtNode.TheViews.{out-Stmt}
use Rattle.cl_tree.specs.declared.statement.TStmt.{TStmt}
use Rattle.cl_tree.specs.declared.statement.TStmtNode.TheVariants as tnode
use Rattle.cl_tree.specs.declared.unit.Variable.{Variable}
use Rattle.cl_rules.specs.declared.rule.Qualified.{Qualified}
use Rattle.cl_scope.specs.declared.scope.DeclaredKind.TheVariants as kind
use Rattle.cl_scope.specs.Names.{Env, entered, left_behind}
use Rattle.cl_scope.specs.Scopes.{IsKnownEnv}
use Rattle.cl_make.specs.Ready.{Grows}
use Rattle.cl_make.proofs.Stays.{from_now}
use Rattle.cl_type_expr.specs.Typing.{WordsAre, WordsStop}
use Rattle.cl_variables.specs.declared.declaring.VariableRead.{VariableRead}
use Rattle.cl_variables.specs.Answers.{again_at, VariableIs, VariableStops}
use Rattle.cl_variables.specs.Declarations.{IsVariable, VariableOffends}
use Rattle.cl_typing.specs.declared.setting.Setting.{Setting}
use Rattle.cl_typing.specs.Answers.{AloneIs, AloneStops, LeavingIs, LeavingStops, VariableIsTyped, VariableStopsAt, VariablesAre, VariablesStop, StmtIsTyped, StmtStops, ItemsAreTyped, ItemsStop, ItemIs, ItemStops, IsPart, a_statement, a_declaration, PartOffends, of_statement, of_declaration, PartIs, PartStops, ArmIs, ArmStops, ArmsAreTyped, ArmsStop}
use Rattle.cl_typing.specs.Settings.{State, state, IsTStmt}
use Rattle.cl_typing.specs.Statements.{AreVariables, SomeVariableOffends, ItemsAre, ArmsAre, StmtOffends, ItemsOffend, ArmsOffend, no_variable, more_variables, this_variable, later_variable, no_item, declaration_item, statement_item, in_words, in_variables, in_statement, behind_declaration, behind_statement, break, continue, empty, no_break, no_continue, no_arm, more_arms, declaration_arm, in_arm, in_declaration_arm, behind_declaration_arm, behind_arm}
use Rattle.cl_typing.proofs.Blocks.{Scoped, behind_known, is_stmt}
use Rattle.cl_typing.proofs.OuterStatements.{items_are_outer, stmt_is_outer}
use Rattle.cl_typing.proofs.SoFar.{SoFar, so_far_start, so_far_next, so_far_stop, so_far_end}

-- ---- variables

-- a variable by its parts
abbrev pub the_variable : VariableRead → Variable
the_variable r = r.variable

module _ (cs : List ClType) (p : Setting) (env after : Env) (vars all : List Variable) (q : Qualified) (d : InitDeclor) (n : ℕ) (number : n ≡ length vars) where
  pub variable_typed : (r : VariableRead) (t : TStmt) → VariableIs cs p.variables (kind.Var n) env q d after r → all ≡ vars ++ r.variable ∷ [] → IsTStmt t r.variable.place (tnode.Decl n r.tree) → VariableIsTyped cs p (state env vars) q d (state after all) t
  variable_typed r t h pushed tree =
      let is : (more : List ClType) → IsGrown cs more → IsVariable more p.variables (kind.Var (length vars)) (again_at p.variables) env q d after r.variable.name r.variable.place r.variable.ty r.variable.space r.tree
      = λ more m. subst (λ z. IsVariable more p.variables (kind.Var z) (again_at p.variables) env q d after r.variable.name r.variable.place r.variable.ty r.variable.space r.tree) number (h.is more m) in
      let node_is : IsTStmt t r.variable.place (tnode.Decl (length vars) r.tree) = subst (λ z. IsTStmt t r.variable.place (tnode.Decl z r.tree)) number tree in
      record {
        variables = λ more m ds last ts rest.
            more_variables (state env vars) last q d ds after r.variable.name r.variable.place r.variable.ty r.variable.space r.tree t ts (is more m) node_is
            (subst (λ z. AreVariables more p (state after z) q ds last ts) pushed rest);
        stops = λ more m ds o rest.
            later_variable (state env vars) q d ds after r.variable.name r.variable.place r.variable.ty r.variable.space r.tree o (is more m)
            (subst (λ z. SomeVariableOffends more p (state after z) q ds o) pushed rest);
        known = h.known;
      }

  pub variable_out : (x : Stop) → VariableStops cs p.variables (kind.Var n) env q d x → VariableStopsAt cs p (state env vars) q d x
  variable_out NoMemory h = tt
  variable_out (Out o) h = λ more m ds. this_variable (state env vars) q d ds o (subst (λ z. VariableOffends more p.variables (kind.Var z) (again_at p.variables) env q d o) number (h more m))

-- the loop over variables
abbrev pub VariablesGo : Setting → Qualified → List ClType → State → List InitDeclor → State → List TStmt → Type 0
VariablesGo p q cs st ds after ts = AreVariables cs p st q ds after ts

abbrev pub VariablesHold : Setting → Qualified → List ClType → State → List InitDeclor → Offence → Type 0
VariablesHold p q cs st ds o = SomeVariableOffends cs p st q ds o

pub record VariablesSoFar (p : Setting) (q : Qualified) (first now : List ClType) (st : State) (ds : List InitDeclor) (i : ℕ) (here : State) (old new : List TStmt) : Type 0 where
  pub trees : List TStmt
  pub added : new ≡ old ++ trees
  pub goes : SoFar (VariablesGo p q) (VariablesHold p q) first now st ds i here trees
  pub known : IsKnownEnv now here.env

module _ (p : Setting) (q : Qualified) where
  pub variables_start : (cs : List ClType) (st : State) (ds : List InitDeclor) (old : List TStmt) → IsTable cs → IsKnownEnv cs st.env → VariablesSoFar p q cs cs st ds 0 st old old
  variables_start cs st ds old b known = record {
    trees = [];
    added = sym (append-nil old);
    goes = so_far_start (VariablesGo p q) (VariablesHold p q) cs st ds [] refl b;
    known = known;
  }

  module _ (first now new : List ClType) (st : State) (ds : List InitDeclor) (i : ℕ) (here : State) (old so_far : List TStmt) (d : InitDeclor) (h : VariablesSoFar p q first now st ds i here old so_far) (low : i < length ds) (is : d ≡ get_or ds i d) (g : Grows now new) where
    pub variables_next : (there : State) (t : TStmt) (all : List TStmt) → all ≡ so_far ++ t ∷ [] → VariableIsTyped new p here q d there t → VariablesSoFar p q first new st ds (i + 1) there old all
    variables_next there t all pushed one = record {
      trees = h.trees ++ t ∷ [];
      added = pushed ∙ ap (λ z. z ++ t ∷ []) h.added ∙ append_assoc old h.trees (t ∷ []);
      goes = so_far_next (VariablesGo p q) (VariablesHold p q) first now new st here ds i h.trees d h.goes low is g there (t ∷ []) (h.trees ++ t ∷ []) refl
          (λ more m after us rest. one.variables more m (drop (i + 1) ds) after us rest)
          (λ more m o rest. one.stops more m (drop (i + 1) ds) o rest);
      known = one.known;
    }

    pub variables_stop : (x : Stop) → VariableStopsAt new p here q d x → VariablesStop new p st q ds x
    variables_stop NoMemory stops = tt
    variables_stop (Out o) stops = so_far_stop (VariablesGo p q) (VariablesHold p q) first now new st here ds i h.trees d h.goes low is g o (λ more m. stops more m (drop (i + 1) ds))

  pub variables_end : (first now : List ClType) (st : State) (ds : List InitDeclor) (i : ℕ) (here : State) (old new : List TStmt) → VariablesSoFar p q first now st ds i here old new → length ds ≤ i → VariablesAre now p st q ds here old new
  variables_end first now st ds i here old new h done = record {
    trees = h.trees;
    added = h.added;
    variables = so_far_end (VariablesGo p q) (VariablesHold p q) first now st here ds i h.trees h.goes done (λ more m. no_variable here q);
    known = h.known;
  }

-- ---- statements that stand alone

pub alone : (cs : List ClType) (p : Setting) (env after : Env) (vars : List Variable) (s : Stmt) (r : Result TStmt Stop) → IfOk r (AloneIs cs p env s after) → IfOk r (StmtIsTyped cs p (state env vars) s (state after vars))
alone cs p env after vars s (Ok t) h = record { is = λ more m. h.is more m vars; known = h.known }
alone cs p env after vars s (Err x) h = tt

pub alone_stops : (cs : List ClType) (p : Setting) (env : Env) (vars : List Variable) (s : Stmt) (r : Result TStmt Stop) → IfErr r (AloneStops cs p env s) → IfErr r (StmtStops cs p (state env vars) s)
alone_stops cs p env vars s (Ok t) h = tt
alone_stops cs p env vars s (Err NoMemory) h = tt
alone_stops cs p env vars s (Err (Out o)) h = λ more m. h more m vars

module _ (cs : List ClType) (p : Setting) (st : State) (s : Stmt) (known : IsKnownEnv cs st.env) where
  pub break_typed : (r : Result TStmt Stop) → (out-Stmt s).node ≡ node.Break → IfOk r (LeavingIs p.breaks (out-Stmt s).place tnode.Break) → IfOk r (StmtIsTyped cs p st s st)
  break_typed (Ok t) is h = record { is = λ more m. break p st s (out-Stmt s).place t (is_stmt s node.Break is) h.allowed h.is; known = known }
  break_typed (Err x) is h = tt

  pub break_out : (r : Result TStmt Stop) → (out-Stmt s).node ≡ node.Break → IfErr r (LeavingStops p.breaks (out-Stmt s).place) → IfErr r (StmtStops cs p st s)
  break_out (Ok t) is h = tt
  break_out (Err NoMemory) is h = tt
  break_out (Err (Out o)) is h = λ more m. subst (StmtOffends more p st s) (sym h.0) (no_break p st s (out-Stmt s).place (is_stmt s node.Break is) h.1)

  pub continue_typed : (r : Result TStmt Stop) → (out-Stmt s).node ≡ node.Continue → IfOk r (LeavingIs p.continues (out-Stmt s).place tnode.Continue) → IfOk r (StmtIsTyped cs p st s st)
  continue_typed (Ok t) is h = record { is = λ more m. continue p st s (out-Stmt s).place t (is_stmt s node.Continue is) h.allowed h.is; known = known }
  continue_typed (Err x) is h = tt

  pub continue_out : (r : Result TStmt Stop) → (out-Stmt s).node ≡ node.Continue → IfErr r (LeavingStops p.continues (out-Stmt s).place) → IfErr r (StmtStops cs p st s)
  continue_out (Ok t) is h = tt
  continue_out (Err NoMemory) is h = tt
  continue_out (Err (Out o)) is h = λ more m. subst (StmtOffends more p st s) (sym h.0) (no_continue p st s (out-Stmt s).place (is_stmt s node.Continue is) h.1)

  pub empty_typed : (r : Result TStmt Stop) → (out-Stmt s).node ≡ node.Empty → IfOk r (LeavingIs true (out-Stmt s).place tnode.Empty) → IfOk r (StmtIsTyped cs p st s st)
  empty_typed (Ok t) is h = record { is = λ more m. empty p st s (out-Stmt s).place t (is_stmt s node.Empty is) h.is; known = known }
  empty_typed (Err x) is h = tt

  pub empty_out : (r : Result TStmt Stop) → IfErr r (LeavingStops true (out-Stmt s).place) → IfErr r (StmtStops cs p st s)
  empty_out (Ok t) h = tt
  empty_out (Err NoMemory) h = tt
  empty_out (Err (Out o)) h = absurd (true≢false h.1)

-- ---- an item

-- the first table is the one behind the words, the second the one behind the variables
module _ (mid new : List ClType) (p : Setting) (n0 nq n1 : Env) (v0 v1 : List Variable) (s : Stmt) (spec : Spec) (items : Vec InitDeclor) (is : (out-Stmt s).node ≡ node.Decl spec items) where
  pub item_words_out : (x : Stop) → WordsStop mid n0 spec x → ItemStops mid p (state n0 v0) s x
  item_words_out NoMemory h = tt
  item_words_out (Out o) h = λ more m ss. in_words p (state n0 v0) s ss (out-Stmt s).place spec items o (is_stmt s (node.Decl spec items) is) (h more m)

  module _ (q : Qualified) (w : WordsAre mid n0 spec nq q) (g : IsGrown mid new) where
    pub item_variables_out : (x : Stop) → VariablesStop new p (state nq v0) q items.items x → ItemStops new p (state n0 v0) s x
    item_variables_out NoMemory h = tt
    item_variables_out (Out o) h = λ more m ss.
        in_variables p (state n0 v0) s ss (out-Stmt s).place spec items nq q o (is_stmt s (node.Decl spec items) is) (w.words more (grown_twice mid new more g m)) (h more m)

    pub item_declared : (old all : List TStmt) → VariablesAre new p (state nq v0) q items.items (state n1 v1) old all → ItemIs new p (state n0 v0) s (state n1 v1) old all
    item_declared old all h = record {
      trees = h.trees;
      added = h.added;
      items = λ more m ss last ts rest.
          declaration_item p (state n0 v0) (state n0 v0) (state n1 v1) last s ss (out-Stmt s).place spec items nq q h.trees ts (is_stmt s (node.Decl spec items) is) (w.words more (grown_twice mid new more g m)) (h.variables more m) rest;
      stops = λ more m ss o rest.
          behind_declaration p (state n0 v0) (state n1 v1) s ss (out-Stmt s).place spec items nq q h.trees o (is_stmt s (node.Decl spec items) is) (w.words more (grown_twice mid new more g m)) (h.variables more m) rest;
      known = h.known;
    }

pub item_stated : (cs : List ClType) (p : Setting) (st after : State) (s : Stmt) (t : TStmt) (old all : List TStmt) → all ≡ old ++ t ∷ [] → StmtIsTyped cs p st s after t → ItemIs cs p st s after old all
item_stated cs p st after s t old all added h = record {
  trees = t ∷ [];
  added = added;
  items = λ more m ss last ts rest. statement_item p st after last s ss t ts (h.is more m) rest;
  stops = λ more m ss o rest. behind_statement p st after s ss t o (h.is more m) rest;
  known = h.known;
}

pub item_statement_out : (cs : List ClType) (p : Setting) (st : State) (s : Stmt) (x : Stop) → StmtStops cs p st s x → ItemStops cs p st s x
item_statement_out cs p st s NoMemory h = tt
item_statement_out cs p st s (Out o) h = λ more m ss. in_statement p st s ss o (h more m)

-- the loop over items
abbrev pub ItemsGo : Setting → List ClType → State → List Stmt → State → List TStmt → Type 0
ItemsGo p cs st ss after ts = ItemsAre cs p st ss after ts

abbrev pub ItemsHold : Setting → List ClType → State → List Stmt → Offence → Type 0
ItemsHold p cs st ss o = ItemsOffend cs p st ss o

pub record ItemsSoFar (p : Setting) (first now : List ClType) (st : State) (ss : List Stmt) (i : ℕ) (here : State) (ts : List TStmt) : Type 0 where
  pub goes : SoFar (ItemsGo p) (ItemsHold p) first now st ss i here ts
  pub known : IsKnownEnv now here.env
  pub result : IsKnown now p.result

module _ (p : Setting) where
  pub items_start : (cs : List ClType) (st : State) (ss : List Stmt) (ts : List TStmt) → ts ≡ [] → IsTable cs → IsKnownEnv cs st.env → IsKnown cs p.result → ItemsSoFar p cs cs st ss 0 st ts
  items_start cs st ss ts none b known k = record { goes = so_far_start (ItemsGo p) (ItemsHold p) cs st ss ts none b; known = known; result = k }

  module _ (first now new : List ClType) (st : State) (ss : List Stmt) (i : ℕ) (here : State) (ts : List TStmt) (s : Stmt) (h : ItemsSoFar p first now st ss i here ts) (low : i < length ss) (is : s ≡ get_or ss i s) (g : Grows now new) where
    pub items_next : (there : State) (all : List TStmt) → ItemIs new p here s there ts all → ItemsSoFar p first new st ss (i + 1) there all
    items_next there all one = record {
      goes = so_far_next (ItemsGo p) (ItemsHold p) first now new st here ss i ts s h.goes low is g there one.trees all one.added
          (λ more m after us rest. one.items more m (drop (i + 1) ss) after us rest)
          (λ more m o rest. one.stops more m (drop (i + 1) ss) o rest);
      known = one.known;
      result = grown_known now new p.result g.grown h.result;
    }

    pub items_stop : (x : Stop) → ItemStops new p here s x → ItemsStop new p st ss x
    items_stop NoMemory stops = tt
    items_stop (Out o) stops = so_far_stop (ItemsGo p) (ItemsHold p) first now new st here ss i ts s h.goes low is g o (λ more m. stops more m (drop (i + 1) ss))

  pub items_end : (first now : List ClType) (st : State) (ss : List Stmt) (i : ℕ) (here : State) (ts : List TStmt) → ItemsSoFar p first now st ss i here ts → length ss ≤ i → ItemsAreTyped now p st ss here ts
  items_end first now st ss i here ts h done = record {
    items = so_far_end (ItemsGo p) (ItemsHold p) first now st here ss i ts h.goes done (λ more m. no_item p here);
    known = h.known;
  }

-- ---- arms

pub part_declared : (cs : List ClType) (p : Setting) (st after : State) (s : Stmt) (spec : Spec) (items : Vec InitDeclor) (old : List TStmt) (us : Vec TStmt) (t : TStmt) → (out-Stmt s).node ≡ node.Decl spec items → old ≡ [] → ItemIs cs p st s after old us.items → IsTStmt t (out-Stmt s).place (tnode.Block us) → PartIs cs p st s after t
part_declared cs p st after s spec items old us t is none h tree = record {
  part = λ more m. a_declaration (out-Stmt s).place spec items us (is_stmt s (node.Decl spec items) is)
      (subst (ItemsAre more p st (s ∷ []) after) (append-nil h.trees ∙ sym (h.added ∙ ap (λ z. z ++ h.trees) none)) (h.items more m [] after [] (no_item p after))) tree;
  known = h.known;
}

pub part_declaration_out : (cs : List ClType) (p : Setting) (st : State) (s : Stmt) (spec : Spec) (items : Vec InitDeclor) (x : Stop) → (out-Stmt s).node ≡ node.Decl spec items → ItemStops cs p st s x → PartStops cs p st s x
part_declaration_out cs p st s spec items NoMemory is h = tt
part_declaration_out cs p st s spec items (Out o) is h = λ more m. of_declaration (out-Stmt s).place spec items (is_stmt s (node.Decl spec items) is) (h more m [])

pub part_stated : (cs : List ClType) (p : Setting) (st after : State) (s : Stmt) (r : Result TStmt Stop) → IfOk r (StmtIsTyped cs p st s after) → IfOk r (PartIs cs p st s after)
part_stated cs p st after s (Ok t) h = record { part = λ more m. a_statement (h.is more m); known = h.known }
part_stated cs p st after s (Err x) h = tt

pub part_statement_out : (cs : List ClType) (p : Setting) (st : State) (s : Stmt) (r : Result TStmt Stop) → IfErr r (StmtStops cs p st s) → IfErr r (PartStops cs p st s)
part_statement_out cs p st s (Ok t) h = tt
part_statement_out cs p st s (Err NoMemory) h = tt
part_statement_out cs p st s (Err (Out o)) h = λ more m. of_statement (h more m)

part_outer : (cs : List ClType) (p : Setting) (st after : State) (s : Stmt) (t : TStmt) → IsPart cs p st s after t → after.env.outer ≡ st.env.outer
part_outer cs p st after s t (a_statement h) = stmt_is_outer cs p st s after t h
part_outer cs p st after s t (a_declaration place spec items us is h tree) = items_are_outer cs p st (s ∷ []) after us.items h

module _ (old new : List ClType) (p : Setting) (n0 ne : Env) (v0 : List Variable) (s : Stmt) (enters : ne ≡ entered n0) where
  stops_in : (more : List ClType) (o : Offence) (ss : List Stmt) → PartOffends more p (state (entered n0) v0) s o → ArmsOffend more p (state n0 v0) (s ∷ ss) o
  stops_in more o ss (of_statement h) = in_arm p (state n0 v0) s ss o h
  stops_in more o ss (of_declaration place spec items is h) = in_declaration_arm p (state n0 v0) s ss place spec items o is h

  pub arm_out : (x : Stop) → PartStops new p (state ne v0) s x → ArmStops new p (state n0 v0) s x
  arm_out NoMemory h = tt
  arm_out (Out o) h = λ more m ss. stops_in more o ss (subst (λ z. PartOffends more p (state z v0) s o) enters (h more m))

  module _ (ni n1 : Env) (v1 : List Variable) (t : TStmt) where
    goes_on : (more : List ClType) (ss : List Stmt) (last : State) (ts : List TStmt) → IsPart more p (state (entered n0) v0) s (state ni v1) t → ArmsAre more p (state (left_behind n0 ni) v1) ss last ts → ArmsAre more p (state n0 v0) (s ∷ ss) last (t ∷ ts)
    goes_on more ss last ts (a_statement h) rest = more_arms p (state n0 v0) (state ni v1) last s ss t ts h rest
    goes_on more ss last ts (a_declaration place spec items us is h tree) rest = declaration_arm p (state n0 v0) (state ni v1) last s ss place spec items us t ts is h tree rest

    stops_on : (more : List ClType) (ss : List Stmt) (o : Offence) → IsPart more p (state (entered n0) v0) s (state ni v1) t → ArmsOffend more p (state (left_behind n0 ni) v1) ss o → ArmsOffend more p (state n0 v0) (s ∷ ss) o
    stops_on more ss o (a_statement h) rest = behind_arm p (state n0 v0) (state ni v1) s ss t o h rest
    stops_on more ss o (a_declaration place spec items us is h tree) rest = behind_declaration_arm p (state n0 v0) (state ni v1) s ss place spec items us.items o is h rest

    pub arm_typed : IsGrown old new → Scoped n0 ne ni n1 → IsKnownEnv old n0 → PartIs new p (state ne v0) s (state ni v1) t → ArmIs new p (state n0 v0) s (state n1 v1) t
    arm_typed g sc k h =
        let outer : ni.outer ≡ ne.outer = part_outer new p (state ne v0) (state ni v1) s t (from_now new (λ more. IsPart more p (state ne v0) s (state ni v1) t) h.part) in
        let part : (more : List ClType) → IsGrown new more → IsPart more p (state (entered n0) v0) s (state ni v1) t = λ more m. subst (λ z. IsPart more p (state z v0) s (state ni v1) t) enters (h.part more m) in
        record {
          arms = λ more m ss last ts rest. goes_on more ss last ts (part more m) (subst (λ z. ArmsAre more p (state z v1) ss last ts) (sc.leaves outer) rest);
          stops = λ more m ss o rest. stops_on more ss o (part more m) (subst (λ z. ArmsOffend more p (state z v1) ss o) (sc.leaves outer) rest);
          known = behind_known old new n0 ne ni n1 g sc outer k h.known;
        }

-- the loop over arms
abbrev pub ArmsGo : Setting → List ClType → State → List Stmt → State → List TStmt → Type 0
ArmsGo p cs st ss after ts = ArmsAre cs p st ss after ts

abbrev pub ArmsHold : Setting → List ClType → State → List Stmt → Offence → Type 0
ArmsHold p cs st ss o = ArmsOffend cs p st ss o

pub record ArmsSoFar (p : Setting) (first now : List ClType) (st : State) (ss : List Stmt) (i : ℕ) (here : State) (ts : List TStmt) : Type 0 where
  pub goes : SoFar (ArmsGo p) (ArmsHold p) first now st ss i here ts
  pub known : IsKnownEnv now here.env
  pub result : IsKnown now p.result

module _ (p : Setting) where
  pub arms_start : (cs : List ClType) (st : State) (ss : List Stmt) (ts : List TStmt) → ts ≡ [] → IsTable cs → IsKnownEnv cs st.env → IsKnown cs p.result → ArmsSoFar p cs cs st ss 0 st ts
  arms_start cs st ss ts none b known k = record { goes = so_far_start (ArmsGo p) (ArmsHold p) cs st ss ts none b; known = known; result = k }

  module _ (first now new : List ClType) (st : State) (ss : List Stmt) (i : ℕ) (here : State) (ts : List TStmt) (s : Stmt) (h : ArmsSoFar p first now st ss i here ts) (low : i < length ss) (is : s ≡ get_or ss i s) (g : Grows now new) where
    pub arms_next : (there : State) (t : TStmt) (all : List TStmt) → all ≡ ts ++ t ∷ [] → ArmIs new p here s there t → ArmsSoFar p first new st ss (i + 1) there all
    arms_next there t all added one = record {
      goes = so_far_next (ArmsGo p) (ArmsHold p) first now new st here ss i ts s h.goes low is g there (t ∷ []) all added
          (λ more m after us rest. one.arms more m (drop (i + 1) ss) after us rest)
          (λ more m o rest. one.stops more m (drop (i + 1) ss) o rest);
      known = one.known;
      result = grown_known now new p.result g.grown h.result;
    }

    pub arms_stop : (x : Stop) → ArmStops new p here s x → ArmsStop new p st ss x
    arms_stop NoMemory stops = tt
    arms_stop (Out o) stops = so_far_stop (ArmsGo p) (ArmsHold p) first now new st here ss i ts s h.goes low is g o (λ more m. stops more m (drop (i + 1) ss))

  pub arms_end : (first now : List ClType) (st : State) (ss : List Stmt) (i : ℕ) (here : State) (ts : List TStmt) → ArmsSoFar p first now st ss i here ts → length ss ≤ i → ArmsAreTyped now p st ss here ts
  arms_end first now st ss i here ts h done = record {
    arms = so_far_end (ArmsGo p) (ArmsHold p) first now st here ss i ts h.goes done (λ more m. no_arm p here);
    known = h.known;
  }
