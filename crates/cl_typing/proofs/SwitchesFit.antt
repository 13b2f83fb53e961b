-- A typed `switch` has at most one default, which stands between sections that end or in the last one.
use Rattle.std.proofs.Common.{◌≡◌, ℕ, suc, ◌+◌, nat_eq, Bool, true, false, true≢false, not, ◌&&◌, ◌||◌, List, [], ◌∷◌, ◌++◌, map, Option, Some, None, refl, sym, ap, ◌∙◌, arith}
use Rattle.std.proofs.lemmas.Bool.{and_from, or_left, or_right, eq-eqb}
use Rattle.cl_types.specs.declared.types.ClType.{ClType}
use Rattle.cl_ast.specs.declared.statement.Group.{Group}
use Rattle.cl_ast.specs.declared.statement.Label.{Label}
use Rattle.cl_tree.specs.declared.expression.TExpr.{TExpr}
use Rattle.cl_tree.specs.declared.statement.Section.{Section}
use Rattle.cl_tree.specs.declared.statement.TStmtNode.TheViews.{out-Section}
use Rattle.cl_tree.specs.Statements.{SectionTested, some_ends, defaults, defaults_end, labels_of, tested}
use Rattle.cl_scope.specs.Names.{Env}
use Rattle.cl_laws.proofs.Fitted.{test_kept, tests_kept}
use Rattle.cl_typing.specs.declared.label.Tested.{Tested}
use Rattle.cl_typing.specs.declared.setting.Setting.{Setting}
use Rattle.cl_typing.specs.Settings.{State}
use Rattle.cl_typing.specs.Statements.{list_ends, case_of, and_seen, is_last, falls_at, SectionsAre, no_section, more_sections, LabelsAre, no_label, case_label, default_label}
use Rattle.cl_typing.proofs.TreeEnds.{items_end}
use Rattle.cl_typing.proofs.TreeFits.{tested_section, section_is}

-- how many defaults stand before
abbrev pub held : Bool → ℕ
held true = 1
held false = 0

seen_default : (c : Option ℕ) (k : Tested) → (and_seen c k).has_default ≡ k.has_default
seen_default None k = refl
seen_default (Some n) k = refl

labels_count : (cs : List ClType) (falls : Bool) (k : Tested) (env : Env) (ls : List Label) (j : Tested) (after : Env) (ts : List (Option TExpr)) → LabelsAre cs falls k env ls j after ts → defaults ts + held k.has_default ≡ held j.has_default
labels_count cs _ _ _ _ _ _ _ (no_label falls k env) = omega arith
labels_count cs _ _ _ _ _ _ _ (case_label falls k j env middle after l ls e t u o ts h0 h1 h2 h3 h4 h5) =
    ap (λ b. defaults ts + held b) (sym (seen_default (case_of cs k.of o t) k)) ∙ labels_count cs _ _ _ _ _ _ _ h5
labels_count cs _ _ _ _ _ _ _ (default_label falls k j env after l ls ts h0 h1 h2) =
    let none = test_kept (321, k.has_default) ((322, falls) ∷ []) h1 in
    let a : held k.has_default ≡ 0 = ap held none in
    let b : defaults ts + 1 ≡ held j.has_default = labels_count cs _ _ _ _ _ _ _ h2 in
    omega (arith, a, b)

labels_fall : (cs : List ClType) (falls : Bool) (k : Tested) (env : Env) (ls : List Label) (j : Tested) (after : Env) (ts : List (Option TExpr)) → LabelsAre cs falls k env ls j after ts → falls ≡ true → defaults ts ≡ 0
labels_fall cs _ _ _ _ _ _ _ (no_label falls k env) f = refl
labels_fall cs _ _ _ _ _ _ _ (case_label falls k j env middle after l ls e t u o ts h0 h1 h2 h3 h4 h5) f = labels_fall cs _ _ _ _ _ _ _ h5 f
labels_fall cs _ _ _ _ _ _ _ (default_label falls k j env after l ls ts h0 h1 h2) f =
    let kept = test_kept (322, falls) [] (tests_kept (321, k.has_default) ((322, falls) ∷ []) h1) in
    absurd (true≢false (sym f ∙ kept))

defaults_append : (ts us : List (Option TExpr)) → defaults (ts ++ us) ≡ defaults ts + defaults us
defaults_append [] us = let e : defaults us ≡ 0 + defaults us = omega arith in e
defaults_append (None ∷ ts) us = let e : suc (defaults (ts ++ us)) ≡ suc (defaults ts) + defaults us = omega (arith, defaults_append ts us) in e
defaults_append (Some t ∷ ts) us = defaults_append ts us

labels_in : (s : Section) (ls : List (Option TExpr)) → (out-Section s).labels.items ≡ ls → (tested_section s).labels ≡ ls
labels_in s ls h = ap (λ x. x.labels) (section_is s) ∙ h

pub sections_count : (cs : List ClType) (p : Setting) (k : Tested) (st : State) (gs : List Group) (after : State) (ss : List Section) → SectionsAre cs p k st gs after ss → (b : Bool) × (defaults (labels_of (map tested_section ss)) + held k.has_default ≡ held b)
sections_count cs _ _ _ _ _ _ (no_section p k st) = (k.has_default, omega arith)
sections_count cs _ _ _ _ _ _ (more_sections p k j st middle after g gs labels body env ls ts s ss h0 h1 h2 h3 h4) =
    let r = sections_count cs _ _ _ _ _ _ h4 in
    let a : defaults (labels_of (map tested_section ss)) + held j.has_default ≡ held r.0 = r.1 in
    let b : defaults ls + held k.has_default ≡ held j.has_default = labels_count cs _ _ _ _ _ _ _ h1 in
    let c : defaults (labels_of (map tested_section (s ∷ ss))) ≡ defaults ls + defaults (labels_of (map tested_section ss)) =
    ap (λ z. defaults (z ++ labels_of (map tested_section ss))) (labels_in s ls h3.under) ∙ defaults_append ls (labels_of (map tested_section ss)) in
    (r.0, omega (arith, a, b, c))

-- ---- where a default stands

abbrev EndsBehind : Bool → SectionTested → List SectionTested → Type 0
EndsBehind before s ss = defaults_end before (s ∷ ss) ≡ true

one_behind : (before : Bool) (s t : SectionTested) (ts : List SectionTested) → (nat_eq (defaults s.labels) 0 || (before && s.ends)) ≡ true → defaults_end s.ends (t ∷ ts) ≡ true → EndsBehind before s (t ∷ ts)
one_behind before s t ts h k = and_from (nat_eq (defaults s.labels) 0 || (before && s.ends)) (defaults_end s.ends (t ∷ ts)) h k

-- a default that doesn't fall through stands between sections that end
between : (n : ℕ) (ends before : Bool) → (not (ends && before) ≡ true → n ≡ 0) → (nat_eq n 0 || (before && ends)) ≡ true
between n true true h = or_right (nat_eq n 0) true refl
between n true false h = or_left (nat_eq n 0) false (eq-eqb n 0 (h refl))
between n false before h = or_left (nat_eq n 0) (before && false) (eq-eqb n 0 (h refl))

behind_one : (cs : List ClType) (p : Setting) (k : Tested) (st : State) (gs : List Group) (after : State) (ss : List Section) → SectionsAre cs p k st gs after ss → (before ends : Bool) (s : SectionTested) → s.ends ≡ ends → (falls_at (is_last gs) ends before ≡ true → defaults s.labels ≡ 0) → defaults_end ends (map tested_section ss) ≡ true → defaults_end before (s ∷ map tested_section ss) ≡ true
behind_one cs _ _ _ _ _ _ (no_section p k st) before ends s e f rest = refl
behind_one cs _ _ _ _ _ _ (more_sections p k j st middle after g gs labels body env ls ts t ss h0 h1 h2 h3 h4) before ends s e f rest =
    one_behind before s (tested_section t) (map tested_section ss)
    ((λ i. nat_eq (defaults s.labels) 0 || (before && e i)) ∙ between (defaults s.labels) ends before f)
    (ap (λ b. defaults_end b (tested_section t ∷ map tested_section ss)) e ∙ rest)

pub sections_end : (cs : List ClType) (p : Setting) (k : Tested) (st : State) (gs : List Group) (after : State) (ss : List Section) → SectionsAre cs p k st gs after ss → defaults_end k.before (map tested_section ss) ≡ true
sections_end cs _ _ _ _ _ _ (no_section p k st) = refl
sections_end cs _ _ _ _ _ _ (more_sections p k j st middle after g gs labels body env ls ts s ss h0 h1 h2 h3 h4) =
    let e : (tested_section s).ends ≡ list_ends body = ap (λ x. x.ends) (section_is s) ∙ ap (λ z. some_ends (map tested z)) h3.has ∙ items_end cs _ _ _ _ _ h2 in
    behind_one cs _ _ _ _ _ _ h4 k.before (list_ends body) (tested_section s) e
    (λ f. ap defaults (labels_in s ls h3.under) ∙ labels_fall cs _ _ _ _ _ _ _ h1 f) (sections_end cs _ _ _ _ _ _ h4)
