-- `switch`, its sections and their labels.
use Rattle.std.proofs.Common.{◌≡◌, ℕ, suc, ◌+◌, ◌<◌, ◌≤◌, nat_eq, Bool, true, false, true≢false, is_some, List, [], ◌∷◌, ◌++◌, length, drop, get_or, Option, Some, None, refl, sym, ap, ◌∙◌, subst, arith}
use Rattle.std.specs.Global.{Vec}
use Rattle.std.proofs.lemmas.Bool.{ne_eqb}
use Rattle.clv_place.specs.declared.place.Place.{Place}
use Rattle.clv_place.specs.declared.stop.Offence.{Offence}
use Rattle.clv_place.specs.declared.stop.Stop.{Stop}
use Rattle.clv_place.specs.declared.stop.Stop.TheVariants.{Out, NoMemory}
use Rattle.cl_types.specs.declared.types.ClType.{ClType}
use Rattle.cl_types.specs.Table.{IsTable}
use Rattle.cl_builtins.specs.Found.{IsGrown, IsKnown}
use Rattle.cl_builtins.proofs.Growth.{grown_twice, grown_known}
use Rattle.cl_ast.specs.declared.expression.Expr.{Expr}
use Rattle.cl_ast.specs.declared.statement.Group.{Group}
use Rattle.cl_ast.specs.declared.statement.Label.{Label}
use Rattle.cl_ast.specs.declared.statement.Stmt.{Stmt}
use Rattle.cl_ast.specs.declared.statement.StmtNode.TheVariants as node
use Rattle.cl_ast.specs.declared.statement.StmtNode.TheViews.{out-Stmt, out-Group}
use Rattle.cl_tree.specs.declared.expression.TExpr.{TExpr}
use Rattle.cl_tree.specs.declared.shape.Shape.TheVariants as shape
use Rattle.cl_tree.specs.declared.statement.Section.{Section}
use Rattle.cl_tree.specs.declared.statement.TStmt.{TStmt}
use Rattle.cl_tree.specs.declared.statement.TStmtNode.{TStmtNode}
use Rattle.cl_tree.specs.declared.statement.TStmtNode.TheVariants as tnode
use Rattle.cl_tree.specs.declared.statement.TStmtNode.TheViews.{roll-Section, out-roll-Section, roll-TStmt, out-roll-TStmt}
use Rattle.cl_tree.specs.declared.unit.Variable.{Variable}
use Rattle.cl_scope.specs.Names.{Env, entered}
use Rattle.cl_scope.specs.Scopes.{IsKnownEnv}
use Rattle.cl_rules.specs.declared.rule.Want.TheVariants as want
use Rattle.cl_rules.specs.Operands.{first_broken}
use Rattle.cl_make.specs.declared.typed.Typed.{Typed}
use Rattle.cl_make.specs.Answered.{IsConvertedOf}
use Rattle.cl_make.specs.Ready.{Grows}
use Rattle.cl_make.proofs.Stays.{from_now, env_stays}
use Rattle.cl_type_expr.specs.Expressions.{Types}
use Rattle.cl_type_expr.specs.Offences.{Offends, at}
use Rattle.cl_type_expr.specs.Syntax.{IsGroup}
use Rattle.cl_type_expr.specs.Typing.{IsTypedAs, StopsIn}
use Rattle.cl_typing.specs.declared.label.Tested.{Tested}
use Rattle.cl_typing.specs.declared.setting.Setting.{Setting}
use Rattle.cl_typing.specs.Answers.{SwitchIs, SwitchStops, CaseValueIs, CaseValueStops, CaseIs, CaseStops, LabelIs, LabelStops, LabelsAreTyped, LabelsStop, StmtIsTyped, StmtStops, ItemsAreTyped, ItemsStop, SectionsAreTyped, SectionsStop, SectionIs, SectionStops}
use Rattle.cl_typing.specs.Settings.{State, state, in_switch, IsTStmt, IsSection}
use Rattle.cl_typing.specs.Statements.{list_ends, falls_at, falls, is_last, tested_first, case_of, case_tests, default_tests, and_seen, and_default, behind_section, StmtIs, SectionsAre, LabelsAre, StmtOffends, SectionsOffend, LabelsOffend, switch, in_switch_value, in_sections, bad_switch, more_sections, no_section, in_labels, in_section_items, after_section, no_label, case_label, default_label, in_case, case_divides, no_case_value, no_default, behind_case, behind_default}
use Rattle.cl_typing.proofs.Blocks.{Scoped, behind_known, is_stmt}
use Rattle.cl_typing.proofs.Outer.{types_outer}
use Rattle.cl_typing.proofs.OuterStatements.{sections_are_outer}
use Rattle.cl_typing.proofs.SoFar.{SoFar, dropped, so_far_start, so_far_next, so_far_stop, so_far_end}

-- ---- labels

module _ (mid cs : List ClType) (k : Tested) (env after : Env) (e : Expr) (r : Typed) (typed : IsTypedAs mid env false e after r) (g : IsGrown mid cs) where
  case_types : (more : List ClType) → IsGrown cs more → Types more env false e after r.tree r.operand
  case_types more m = typed.types more (grown_twice mid cs more g m)

  pub case_divided : (place : Place) (x : Stop) → CaseValueStops cs r.tree x → CaseStops cs k env e place x
  case_divided place NoMemory h = tt
  case_divided place (Out o) h = λ more m falls l ls some there.
      subst (λ c. LabelsOffend more falls k env (l ∷ ls) (at c o.place)) (sym h.0) (case_divides falls k env after l ls e r.tree r.operand o.place some (case_types more m) (h.1 more m))

  module _ (n : Option ℕ) (value : CaseValueIs cs k.of r n) where
    -- what is tested of the value, as it is in each longer table
    case_tested : (more : List ClType) (c : Option ℕ) → IsGrown cs more → first_broken (case_tests more r.operand n k.seen) ≡ c → first_broken (case_tests more r.operand (case_of more k.of r.operand r.tree) k.seen) ≡ c
    case_tested more c m h = subst (λ z. first_broken (case_tests more r.operand z k.seen) ≡ c) (value.is more m) h

    pub case_broken : (place : Place) (code : ℕ) → first_broken (case_tests cs r.operand n k.seen) ≡ Some code → CaseStops cs k env e place (Out (at code place))
    case_broken place code h = λ more m falls l ls some there.
        subst (λ z. LabelsOffend more falls k env (l ∷ ls) (at code z)) there (no_case_value falls k env after l ls e r.tree r.operand code some (case_types more m) (value.whole more m) (case_tested more (Some code) m h))

    pub case_fits : (new : List ClType) (u : TExpr) (j : Tested) → IsGrown cs new → first_broken (case_tests cs r.operand n k.seen) ≡ None → j ≡ and_seen n k → IsConvertedOf new (want.Of (shape.Integers k.of)) r.tree u → IsKnownEnv new after → CaseIs new k env e j after u
    case_fits new u j h none seen converts known = record {
      labels = λ more m falls l ls end last ts some rest.
          let v = grown_twice cs new more h m in
          case_label falls k end env after last l ls e r.tree u r.operand ts some (case_types more v) (value.whole more v) (case_tested more None v none) (converts.converts more m)
          (subst (λ z. LabelsAre more falls z after ls end last ts) (seen ∙ ap (λ z. and_seen z k) (value.is more v)) rest);
      stops = λ more m falls l ls o some rest.
          let v = grown_twice cs new more h m in
          behind_case falls k env after l ls e r.tree r.operand o some (case_types more v) (value.whole more v) (case_tested more None v none)
          (subst (λ z. LabelsOffend more falls z after ls o) (seen ∙ ap (λ z. and_seen z k) (value.is more v)) rest);
      type = ap (λ z. z.of) seen ∙ seen_type n;
      known = known;
    }
      where
        seen_type : (z : Option ℕ) → (and_seen z k).of ≡ k.of
        seen_type None = refl
        seen_type (Some w) = refl

pub case_kept : (a b : Bool) → first_broken ((311, a) ∷ (320, b) ∷ []) ≡ None → b ≡ false
case_kept true b h = absurd (true≢false (ap is_some h))
case_kept false true h = absurd (true≢false (ap is_some h))
case_kept false false h = refl

pub case_expr_out : (cs : List ClType) (k : Tested) (env : Env) (e : Expr) (place : Place) (x : Stop) → StopsIn cs env false e x → CaseStops cs k env e place x
case_expr_out cs k env e place NoMemory h = tt
case_expr_out cs k env e place (Out o) h = λ more m falls l ls some there. in_case falls k env l ls e o some (h more m)

pub label_case : (cs : List ClType) (falls : Bool) (k j : Tested) (env after : Env) (l : Label) (e : Expr) (t : TExpr) → l.value ≡ Some e → CaseIs cs k env e j after t → LabelIs cs falls k env l j after (Some t)
label_case cs falls k j env after l e t some h = record {
  labels = λ more m ls end last ts rest. h.labels more m falls l ls end last ts some rest;
  stops = λ more m ls o rest. h.stops more m falls l ls o some rest;
  type = h.type;
  known = h.known;
}

pub label_case_out : (cs : List ClType) (falls : Bool) (k : Tested) (env : Env) (l : Label) (e : Expr) (x : Stop) → l.value ≡ Some e → CaseStops cs k env e l.place x → LabelStops cs falls k env l x
label_case_out cs falls k env l e NoMemory some h = tt
label_case_out cs falls k env l e (Out o) some h = λ more m ls. h more m falls l ls some refl

pub label_default : (cs : List ClType) (falls : Bool) (k j : Tested) (env : Env) (l : Label) → l.value ≡ None → first_broken (default_tests k.has_default falls) ≡ None → j ≡ and_default k → IsKnownEnv cs env → LabelIs cs falls k env l j env None
label_default cs falls k j env l none fits is known = record {
  labels = λ more m ls end last ts rest. default_label falls k end env last l ls ts none fits (subst (λ z. LabelsAre more falls z env ls end last ts) is rest);
  stops = λ more m ls o rest. behind_default falls k env l ls o none fits (subst (λ z. LabelsOffend more falls z env ls o) is rest);
  type = ap (λ z. z.of) is;
  known = known;
}

pub label_default_out : (cs : List ClType) (falls : Bool) (k : Tested) (env : Env) (l : Label) (code : ℕ) → l.value ≡ None → first_broken (default_tests k.has_default falls) ≡ Some code → LabelStops cs falls k env l (Out (at code l.place))
label_default_out cs falls k env l code none broken = λ more m ls. no_default falls k env l ls code none broken

-- the loop over labels: what is tested, and the declarations
pub record LabelState : Type 0 where
  pub known : Tested
  pub env : Env

abbrev pub label_state : Tested → Env → LabelState
label_state k env = record { known = k; env = env }

abbrev pub LabelsGo : Bool → List ClType → LabelState → List Label → LabelState → List (Option TExpr) → Type 0
LabelsGo falls cs st ls after ts = LabelsAre cs falls st.known st.env ls after.known after.env ts

abbrev pub LabelsHold : Bool → List ClType → LabelState → List Label → Offence → Type 0
LabelsHold falls cs st ls o = LabelsOffend cs falls st.known st.env ls o

pub record LabelsSoFar (falls : Bool) (first now : List ClType) (k : Tested) (env : Env) (ls : List Label) (i : ℕ) (j : Tested) (here : Env) (ts : List (Option TExpr)) : Type 0 where
  pub goes : SoFar (LabelsGo falls) (LabelsHold falls) first now (label_state k env) ls i (label_state j here) ts
  pub type : j.of ≡ k.of
  pub known : IsKnownEnv now here

module _ (falls : Bool) where
  pub labels_start : (cs : List ClType) (k : Tested) (env : Env) (ls : List Label) (ts : List (Option TExpr)) → ts ≡ [] → IsTable cs → IsKnownEnv cs env → LabelsSoFar falls cs cs k env ls 0 k env ts
  labels_start cs k env ls ts none b known = record {
    goes = so_far_start (LabelsGo falls) (LabelsHold falls) cs (label_state k env) ls ts none b;
    type = refl;
    known = known;
  }

  module _ (first now new : List ClType) (k : Tested) (env : Env) (ls : List Label) (i : ℕ) (j : Tested) (here : Env) (ts : List (Option TExpr)) (l : Label) (h : LabelsSoFar falls first now k env ls i j here ts) (low : i < length ls) (is : l ≡ get_or ls i l) (g : Grows now new) where
    pub labels_next : (jn : Tested) (there : Env) (t : Option TExpr) (all : List (Option TExpr)) → all ≡ ts ++ t ∷ [] → LabelIs new falls j here l jn there t → LabelsSoFar falls first new k env ls (i + 1) jn there all
    labels_next jn there t all added one = record {
      goes = so_far_next (LabelsGo falls) (LabelsHold falls) first now new (label_state k env) (label_state j here) ls i ts l h.goes low is g (label_state jn there) (t ∷ []) all added
          (λ more m after us rest. one.labels more m (drop (i + 1) ls) after.known after.env us rest)
          (λ more m o rest. one.stops more m (drop (i + 1) ls) o rest);
      type = one.type ∙ h.type;
      known = one.known;
    }

    pub labels_stop : (x : Stop) → LabelStops new falls j here l x → LabelsStop new falls k env ls x
    labels_stop NoMemory stops = tt
    labels_stop (Out o) stops = so_far_stop (LabelsGo falls) (LabelsHold falls) first now new (label_state k env) (label_state j here) ls i ts l h.goes low is g o (λ more m. stops more m (drop (i + 1) ls))

  pub labels_end : (first now : List ClType) (k : Tested) (env : Env) (ls : List Label) (i : ℕ) (j : Tested) (here : Env) (ts : List (Option TExpr)) → LabelsSoFar falls first now k env ls i j here ts → length ls ≤ i → LabelsAreTyped now falls k env ls j here ts
  labels_end first now k env ls i j here ts h done = record {
    labels = so_far_end (LabelsGo falls) (LabelsHold falls) first now (label_state k env) (label_state j here) ls i ts h.goes done (λ more m. no_label falls j here);
    type = h.type;
    known = h.known;
  }

-- ---- a section

pub built_section : (labels : Vec (Option TExpr)) (body : Vec TStmt) → IsSection (roll-Section record { labels = labels; body = body }) labels.items body.items
built_section labels body = let e = out-roll-Section record { labels = labels; body = body } in record { under = ap (λ z. z.labels.items) e; has = ap (λ z. z.body.items) e }

pub built_stmt : (place : Place) (n : TStmtNode) → IsTStmt (roll-TStmt record { place = place; node = n }) place n
built_stmt place n = let e = out-roll-TStmt record { place = place; node = n } in record { at = ap (λ z. z.place) e; is = ap (λ z. z.node) e }

pub is_group : (g : Group) → IsGroup g (out-Group g).labels.items (out-Group g).body.items
is_group g = record { under = refl; has = refl }

module _ (mid new : List ClType) (p : Setting) (last ends fall : Bool) (k j : Tested) (n0 nl : Env) (v0 : List Variable) (g : Group) (e : ends ≡ list_ends (out-Group g).body.items) (f : fall ≡ falls_at last ends k.before) where
  fall_is : (gs : List Group) → is_last gs ≡ last → fall ≡ falls k (out-Group g).body.items gs
  fall_is gs l = f ∙ ap (λ z. falls_at last z k.before) e ∙ ap (λ z. falls_at z (list_ends (out-Group g).body.items) k.before) (sym l)

  pub section_labels_out : (x : Stop) → LabelsStop new fall k n0 (out-Group g).labels.items x → SectionStops new p last k (state n0 v0) g x
  section_labels_out NoMemory h = tt
  section_labels_out (Out o) h = λ more m gs l.
      in_labels p k (state n0 v0) g gs (out-Group g).labels.items (out-Group g).body.items o (is_group g) (subst (λ z. LabelsOffend more z k n0 (out-Group g).labels.items o) (fall_is gs l) (h more m))

  module _ (ls : Vec (Option TExpr)) (labelled : LabelsAreTyped mid fall k n0 (out-Group g).labels.items j nl ls.items) (h : IsGrown mid new) where
    section_labels : (more : List ClType) (gs : List Group) → IsGrown new more → is_last gs ≡ last → LabelsAre more (falls k (out-Group g).body.items gs) k n0 (out-Group g).labels.items j nl ls.items
    section_labels more gs m l = subst (λ z. LabelsAre more z k n0 (out-Group g).labels.items j nl ls.items) (fall_is gs l) (labelled.labels more (grown_twice mid new more h m))

    pub section_items_out : (x : Stop) → ItemsStop new p (state nl v0) (out-Group g).body.items x → SectionStops new p last k (state n0 v0) g x
    section_items_out NoMemory stops = tt
    section_items_out (Out o) stops = λ more m gs l.
        in_section_items p k j (state n0 v0) g gs (out-Group g).labels.items (out-Group g).body.items nl ls.items o (is_group g) (section_labels more gs m l) (stops more m)

    pub section_typed : (n1 : Env) (v1 : List Variable) (ts : Vec TStmt) (i : Tested) (s : Section) → ItemsAreTyped new p (state nl v0) (out-Group g).body.items (state n1 v1) ts.items → i ≡ behind_section ends j → IsSection s ls.items ts.items → SectionIs new p last k (state n0 v0) g i (state n1 v1) s
    section_typed n1 v1 ts i s items is tree =
        let left : i ≡ behind_section (list_ends (out-Group g).body.items) j = is ∙ ap (λ z. behind_section z j) e in
        record {
          sections = λ more m gs end ss l rest.
              more_sections p k j (state n0 v0) (state n1 v1) end g gs (out-Group g).labels.items (out-Group g).body.items nl ls.items ts.items s ss (is_group g) (section_labels more gs m l) (items.items more m) tree
              (subst (λ z. SectionsAre more p z (state n1 v1) gs end ss) left rest);
          stops = λ more m gs o l rest.
              after_section p k j (state n0 v0) (state n1 v1) g gs (out-Group g).labels.items (out-Group g).body.items nl ls.items ts.items o (is_group g) (section_labels more gs m l) (items.items more m)
              (subst (λ z. SectionsOffend more p z (state n1 v1) gs o) left rest);
          type = ap (λ z. z.of) is ∙ labelled.type;
          known = items.known;
        }

-- ---- sections

pub record SectionState : Type 0 where
  pub known : Tested
  pub st : State

abbrev pub section_state : Tested → State → SectionState
section_state k st = record { known = k; st = st }

abbrev pub SectionsGo : Setting → List ClType → SectionState → List Group → SectionState → List Section → Type 0
SectionsGo p cs st gs after ss = SectionsAre cs p st.known st.st gs after.st ss

abbrev pub SectionsHold : Setting → List ClType → SectionState → List Group → Offence → Type 0
SectionsHold p cs st gs o = SectionsOffend cs p st.known st.st gs o

pub record SectionsSoFar (p : Setting) (first now : List ClType) (k : Tested) (st : State) (gs : List Group) (i : ℕ) (behind : ℕ) (j : Tested) (here : State) (ss : List Section) : Type 0 where
  pub goes : SoFar (SectionsGo p) (SectionsHold p) first now (section_state k st) gs i (section_state j here) ss
  pub left : behind ≡ length (drop i gs)
  pub type : j.of ≡ k.of
  pub known : IsKnownEnv now here.env
  pub result : IsKnown now p.result

suc_same : (a b : ℕ) → suc a ≡ suc b → a ≡ b
suc_same a b e = omega arith

not_zero : (n : ℕ) → false ≡ nat_eq (suc n) 0
not_zero n = sym (ne_eqb (suc n) 0 (λ (e : suc n ≡ 0). omega arith))

last_left : (gs : List Group) → is_last gs ≡ nat_eq (length gs) 0
last_left [] = refl
last_left (g ∷ gs) = not_zero (length gs)

module _ (p : Setting) where
  pub sections_start : (cs : List ClType) (k : Tested) (st : State) (gs : List Group) (ss : List Section) (behind : ℕ) → ss ≡ [] → behind ≡ length gs → IsTable cs → IsKnownEnv cs st.env → IsKnown cs p.result → SectionsSoFar p cs cs k st gs 0 behind k st ss
  sections_start cs k st gs ss behind none left b known r = record {
    goes = so_far_start (SectionsGo p) (SectionsHold p) cs (section_state k st) gs ss none b;
    left = left;
    type = refl;
    known = known;
    result = r;
  }

  module _ (first now new : List ClType) (k : Tested) (st : State) (gs : List Group) (i behind less : ℕ) (j : Tested) (here : State) (ss : List Section) (g : Group) (last : Bool) (h : SectionsSoFar p first now k st gs i behind j here ss) (low : i < length gs) (is : g ≡ get_or gs i g) (grows : Grows now new) (fewer : suc less ≡ behind) (l : last ≡ nat_eq less 0) where
    left_then : less ≡ length (drop (i + 1) gs)
    left_then = suc_same less (length (drop (i + 1) gs)) (fewer ∙ h.left ∙ ap length (dropped gs i g low is))

    ends_there : is_last (drop (i + 1) gs) ≡ last
    ends_there = last_left (drop (i + 1) gs) ∙ ap (λ n. nat_eq n 0) (sym left_then) ∙ sym l

    pub sections_next : (jn : Tested) (there : State) (s : Section) (all : List Section) → all ≡ ss ++ s ∷ [] → SectionIs new p last j here g jn there s → SectionsSoFar p first new k st gs (i + 1) less jn there all
    sections_next jn there s all added one = record {
      goes = so_far_next (SectionsGo p) (SectionsHold p) first now new (section_state k st) (section_state j here) gs i ss g h.goes low is grows (section_state jn there) (s ∷ []) all added
          (λ more m after us rest. one.sections more m (drop (i + 1) gs) after.st us ends_there rest)
          (λ more m o rest. one.stops more m (drop (i + 1) gs) o ends_there rest);
      left = left_then;
      type = one.type ∙ h.type;
      known = one.known;
      result = grown_known now new p.result grows.grown h.result;
    }

    pub sections_stop : (x : Stop) → SectionStops new p last j here g x → SectionsStop new p k st gs x
    sections_stop NoMemory stops = tt
    sections_stop (Out o) stops = so_far_stop (SectionsGo p) (SectionsHold p) first now new (section_state k st) (section_state j here) gs i ss g h.goes low is grows o (λ more m. stops more m (drop (i + 1) gs) ends_there)

  pub sections_some : (first now : List ClType) (k : Tested) (st : State) (gs : List Group) (i behind : ℕ) (j : Tested) (here : State) (ss : List Section) (g : Group) → SectionsSoFar p first now k st gs i behind j here ss → i < length gs → g ≡ get_or gs i g → 0 < behind
  sections_some first now k st gs i behind j here ss g h low is = let e : behind ≡ suc (length (drop (i + 1) gs)) = h.left ∙ ap length (dropped gs i g low is) in omega arith

  pub sections_end : (first now : List ClType) (k : Tested) (st : State) (gs : List Group) (i behind : ℕ) (j : Tested) (here : State) (ss : List Section) → SectionsSoFar p first now k st gs i behind j here ss → length gs ≤ i → SectionsAreTyped now p k st gs here ss
  sections_end first now k st gs i behind j here ss h done = record {
    sections = so_far_end (SectionsGo p) (SectionsHold p) first now (section_state k st) (section_state j here) gs i ss h.goes done (λ more m. no_section p j here);
    known = h.known;
  }

-- ---- `switch`

-- the first table is the one behind what is tested, the second the one behind the sections, and the last the one behind the conversion
module _ (mid late : List ClType) (p : Setting) (n0 ne nx : Env) (v0 : List Variable) (s : Stmt) (e : Expr) (all : Vec Group) (is : (out-Stmt s).node ≡ node.Switch e all) (enters : ne ≡ entered n0) where
  pub switch_value_out : (x : Stop) → StopsIn mid ne false e x → StmtStops mid p (state n0 v0) s x
  switch_value_out NoMemory h = tt
  switch_value_out (Out o) h = λ more m. in_switch_value p (state n0 v0) s (out-Stmt s).place e all o (is_stmt s (node.Switch e all) is) (subst (λ z. Offends more z false e o) enters (h more m))

  module _ (r : Typed) (k : Tested) (typed : IsTypedAs mid ne false e nx r) (first : k ≡ tested_first r.operand.shape) (g : IsGrown mid late) where
    switch_types : (more : List ClType) → IsGrown late more → Types more (entered n0) false e nx r.tree r.operand
    switch_types more m = subst (λ z. Types more z false e nx r.tree r.operand) enters (typed.types more (grown_twice mid late more g m))

    pub switch_sections_out : (x : Stop) → SectionsStop late (in_switch p) k (state nx v0) all.items x → StmtStops late p (state n0 v0) s x
    switch_sections_out NoMemory h = tt
    switch_sections_out (Out o) h = λ more m.
        in_sections p (state n0 v0) s (out-Stmt s).place e all nx r.tree r.operand o (is_stmt s (node.Switch e all) is) (switch_types more m)
        (subst (λ z. SectionsOffend more (in_switch p) z (state nx v0) all.items o) first (h more m))

    module _ (nz n1 : Env) (v1 : List Variable) (ss : Vec Section) (sections : SectionsAreTyped late (in_switch p) k (state nx v0) all.items (state nz v1) ss.items) where
      switch_sections : (more : List ClType) → IsGrown late more → SectionsAre more (in_switch p) (tested_first r.operand.shape) (state nx v0) all.items (state nz v1) ss.items
      switch_sections more m = subst (λ z. SectionsAre more (in_switch p) z (state nx v0) all.items (state nz v1) ss.items) first (sections.sections more m)

      pub switch_broken : (new : List ClType) → IsGrown late new → (x : Stop) → SwitchStops r (out-Stmt s).place x → StmtStops new p (state n0 v0) s x
      switch_broken new v NoMemory h = tt
      switch_broken new v (Out o) h = λ more m. let w = grown_twice late new more v m in subst (StmtOffends more p (state n0 v0) s) (sym h.is)
          (bad_switch p (state n0 v0) (state nz v1) s (out-Stmt s).place e all nx r.tree r.operand ss.items (is_stmt s (node.Switch e all) is) (switch_types more w) (switch_sections more w) h.holds)

      switch_outer : nz.outer ≡ ne.outer
      switch_outer =
          sections_are_outer late (in_switch p) k (state nx v0) all.items (state nz v1) ss.items (from_now late (λ more. SectionsAre more (in_switch p) k (state nx v0) all.items (state nz v1) ss.items) sections.sections)
          ∙ types_outer mid ne false e nx r.tree r.operand (from_now mid (λ more. Types more ne false e nx r.tree r.operand) typed.types)

      pub switch_typed : (old new : List ClType) (u : TExpr) (t : TStmt) → IsGrown old new → IsGrown late new → Scoped n0 ne nz n1 → IsKnownEnv old n0 → SwitchIs new r u → IsTStmt t (out-Stmt s).place (tnode.Switch u ss) → StmtIsTyped new p (state n0 v0) s (state n1 v1) t
      switch_typed old new u t h v sc known c tree = record {
        is = λ more m. let w = grown_twice late new more v m in
            subst (λ z. StmtIs more p (state n0 v0) s (state z v1) t) (sym (sc.leaves switch_outer))
            (switch p (state n0 v0) (state nz v1) s (out-Stmt s).place e all nx r.tree u r.operand ss t (is_stmt s (node.Switch e all) is) (switch_types more w) (switch_sections more w) c.fits (c.converts more m) tree);
        known = behind_known old new n0 ne nz n1 h sc switch_outer known (env_stays late new nz v sections.known);
      }
