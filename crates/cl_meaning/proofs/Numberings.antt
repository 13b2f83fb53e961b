-- Trees numbered one after another.
use Rattle.std.proofs.Common.{◌≡◌, ℕ, zero, suc, ◌+◌, ◌<◌, ◌≤◌, Bool, true, false, Option, Some, None, List, [], ◌∷◌, ◌++◌, length, map, get_or, take, drop, refl, sym, ap, ◌∙◌, arith, add-one, append_assoc}
use Rattle.std.specs.Prelude.{if◌then◌else◌, slice_get}
use Rattle.std.proofs.lemmas.List.{append-nil, drop_more, drop_all}
use Rattle.cl_types.specs.declared.types.ClType.{ClType}
use Rattle.cl_tree.specs.declared.expression.TExpr.{TExpr}
use Rattle.cl_tree.specs.declared.statement.TStmt.{TStmt}
use Rattle.cl_tree.specs.declared.statement.Section.{Section as TSection}
use Rattle.cl_tree.specs.declared.unit.Variable.{Variable}
use Rattle.cl_tree.specs.Units.{types_of}
use Rattle.cl_meaning.specs.declared.code.Expr.{Expr as PlainExpr}
use Rattle.cl_meaning.specs.declared.code.Expr.TheOpen.{Expr-F}
use Rattle.cl_meaning.specs.declared.code.Expr.TheViews.{roll-Expr}
use Rattle.cl_meaning.specs.declared.code.Expr.TheFolds.{fold-roll-Expr}
use Rattle.cl_meaning.specs.declared.code.Stmt.{Stmt as PlainStmt}
use Rattle.cl_meaning.specs.Code.{Expr, AndExpr, Tree, Node, Label, Numbered, numbered_all, numbered, behind_operands, is_in_local, locals_among, Stmt, NoStmt, AndStmt, Empty, Placed, placed_all, Sections, AndSection, placed_sections, arms, loop_body, labelled}
use Rattle.cl_meaning.specs.Placing.{label_at}
use Rattle.cl_meaning.specs.Views.{IsPair, expr_by, expr_step, exprs_from, stmt_by, stmts_from, stmts_by, sections_from, placed, section_at}

-- ---- variables

swapped : (a b c : ℕ) → a + (b + c) ≡ b + (a + c)
swapped a b c = omega arith

locals_next : (vs : List Variable) (k : ℕ) → locals_among (take (suc k) vs) ≡ (if is_in_local (slice_get vs k) then 1 else 0) + locals_among (take k vs)
locals_next [] zero = refl
locals_next [] (suc k) = refl
locals_next (v ∷ vs) zero = refl
locals_next (v ∷ vs) (suc k) =
    ap (λ n. (if is_in_local (Some v) then 1 else 0) + n) (locals_next vs k)
    ∙ swapped (if is_in_local (Some v) then 1 else 0) (if is_in_local (slice_get vs k) then 1 else 0) (locals_among (take k vs))

locals_by : (vs : List Variable) (k : ℕ) (b : Bool) → b ≡ is_in_local (slice_get vs k) → (if b then 1 else 0) + locals_among (take k vs) ≡ locals_among (take (k + 1) vs)
locals_by vs k b e = ap (λ z. (if z then 1 else 0) + locals_among (take k vs)) e ∙ sym (locals_next vs k) ∙ sym (ap (λ n. locals_among (take n vs)) (add-one k))

pub one_local : (vs : List Variable) (k n : ℕ) → n ≡ locals_among (take k vs) → true ≡ is_in_local (slice_get vs k) → n + 1 ≡ locals_among (take (k + 1) vs)
one_local vs k n e h = let more = locals_by vs k true h in omega arith

pub no_local : (vs : List Variable) (k n : ℕ) → n ≡ locals_among (take k vs) → false ≡ is_in_local (slice_get vs k) → n ≡ locals_among (take (k + 1) vs)
no_local vs k n e h = let more = locals_by vs k false h in omega arith

pub ruleset locals = (one_local, no_local)

pub types_mapped : (vs : List Variable) → types_of vs ≡ map (λ v. v.ty) vs
types_mapped [] = refl
types_mapped (v ∷ vs) = ap (λ z. v.ty ∷ z) (types_mapped vs)

pub ruleset types = (types_mapped)

first_left : {A : Type 0} (xs : List A) (at : ℕ) (x : A) → at < length xs → x ≡ get_or xs at x → drop at xs ≡ x ∷ drop (at + 1) xs
first_left xs at x h is = drop_more xs at x h ∙ ap (λ z. z ∷ drop (at + 1) xs) (sym is)

-- ---- a list, each made by the number behind those before it

abbrev pub listed : {B : Type 0} → List (ℕ → B × ℕ) → ℕ → List B × ℕ
listed [] n = ([], n)
listed (f ∷ fs) n = let rest = listed fs (f n).1 in ((f n).0 ∷ rest.0, rest.1)

-- what is left makes the whole
pub record ListedTo {A B : Type 0} (f : A → ℕ → B × ℕ) (xs : List A) (n : ℕ) (at : ℕ) (made : List B) (next : ℕ) : Type 0 where
  pub all : made ++ (listed (map f (drop at xs)) next).0 ≡ (listed (map f xs) n).0
  pub behind : (listed (map f (drop at xs)) next).1 ≡ (listed (map f xs) n).1

pub listed_begin : {A B : Type 0} (f : A → ℕ → B × ℕ) (xs : List A) (n : ℕ) → ListedTo f xs n 0 [] n
listed_begin f xs n = record { all = refl; behind = refl }

pub listed_more : {A B : Type 0} (f : A → ℕ → B × ℕ) (xs : List A) (n at : ℕ) (made : List B) (next : ℕ) (x : A) (y : B) (new : List B) (m : ℕ) → ListedTo f xs n at made next → at < length xs → x ≡ get_or xs at x → y ≡ (f x next).0 → m ≡ (f x next).1 → new ≡ made ++ y ∷ [] → ListedTo f xs n (at + 1) new m
listed_more f xs n at made next x y new m to h is first then_at pushed =
    let rest = λ (k : ℕ). listed (map f (drop (at + 1) xs)) k in
    let left = first_left xs at x h is in
    record {
      all = ap (λ z. z ++ (rest m).0) pushed ∙ append_assoc made (y ∷ []) (rest m).0
          ∙ ap (λ z. made ++ z ∷ (rest m).0) first ∙ ap (λ k. made ++ (f x next).0 ∷ (rest k).0) then_at
          ∙ sym (ap (λ z. made ++ (listed (map f z) next).0) left) ∙ to.all;
      behind = ap (λ k. (rest k).1) then_at ∙ sym (ap (λ z. (listed (map f z) next).1) left) ∙ to.behind;
    }

pub listed_end : {A B : Type 0} (f : A → ℕ → B × ℕ) (xs : List A) (n at : ℕ) (made : List B) (next : ℕ) → ListedTo f xs n at made next → length xs ≤ at → (made ≡ (listed (map f xs) n).0) × (next ≡ (listed (map f xs) n).1)
listed_end f xs n at made next to h =
    let left = drop_all at xs h in
    (sym (append-nil made) ∙ sym (ap (λ z. made ++ (listed (map f z) next).0) left) ∙ to.all, sym (ap (λ z. (listed (map f z) next).1) left) ∙ to.behind)

-- ---- operands

exprs_listed : (fs : List Numbered) (n : ℕ) → numbered_all fs n ≡ (exprs_from (listed fs n).0, (listed fs n).1)
exprs_listed [] n = refl
exprs_listed (f ∷ fs) n = ap (λ p. (AndExpr (f n).0 p.0, p.1)) (exprs_listed fs (f n).1)

pub operands_end : (vars : List Variable) (args : List TExpr) (n at m : ℕ) (node : Node) (x : Expr-F PlainExpr) → ListedTo (numbered vars) args n at (map expr_by x.operands.items) x.number → length args ≤ at → m ≡ suc x.number → x.node ≡ node → IsPair (expr_by (roll-Expr x)) m (behind_operands node (map (numbered vars) args) x.ty n)
operands_end vars args n at m node x to h e same =
    let fs = map (numbered vars) args in
    let made = map expr_by x.operands.items in
    let ends = listed_end (numbered vars) args n at made x.number to h in
    let whole = exprs_listed fs n in (
      fold-roll-Expr Expr expr_step x
          ∙ ap (λ z. Tree z x.ty x.number (exprs_from made)) same
          ∙ ap (λ z. Tree node x.ty x.number (exprs_from z)) ends.0
          ∙ ap (λ k. Tree node x.ty k (exprs_from (listed fs n).0)) ends.1
          ∙ sym (ap (λ p. Tree node x.ty p.1 p.0) whole),
      e ∙ ap suc ends.1 ∙ sym (ap (λ p. suc p.1) whole),
    )

-- ---- labels

labels_listed : (cs : List ClType) (vars : List Variable) (ls : List (Option TExpr)) (n : ℕ) → labelled cs vars ls n ≡ listed (map (label_at cs vars) ls) n
labels_listed cs vars [] n = refl
labels_listed cs vars (None ∷ ls) n = ap (λ p. ((label_at cs vars None n).0 ∷ p.0, p.1)) (labels_listed cs vars ls n)
labels_listed cs vars (Some e ∷ ls) n = ap (λ p. ((label_at cs vars (Some e) n).0 ∷ p.0, p.1)) (labels_listed cs vars ls (numbered vars e n).1)

pub labels_end : (cs : List ClType) (vars : List Variable) (ls : List (Option TExpr)) (n at next : ℕ) (made : List Label) → ListedTo (label_at cs vars) ls n at made next → length ls ≤ at → IsPair made next (labelled cs vars ls n)
labels_end cs vars ls n at next made to h =
    let ends = listed_end (label_at cs vars) ls n at made next to h in
    let whole = labels_listed cs vars ls n in
    (ends.0 ∙ sym (ap (λ p. p.0) whole), ends.1 ∙ sym (ap (λ p. p.1) whole))

-- ---- statements

stmts_listed : (fs : List Placed) (n : ℕ) → placed_all fs n ≡ (stmts_from (listed fs n).0, (listed fs n).1)
stmts_listed [] n = refl
stmts_listed (f ∷ fs) n = ap (λ p. (AndStmt (f n).0 p.0, p.1)) (stmts_listed fs (f n).1)

pub stmts_end : (cs : List ClType) (vars : List Variable) (ss : List TStmt) (n at next : ℕ) (made : List Stmt) → ListedTo (placed cs vars) ss n at made next → length ss ≤ at → IsPair (stmts_from made) next (placed_all (map (placed cs vars) ss) n)
stmts_end cs vars ss n at next made to h =
    let ends = listed_end (placed cs vars) ss n at made next to h in
    let whole = stmts_listed (map (placed cs vars) ss) n in
    (ap stmts_from ends.0 ∙ sym (ap (λ p. p.0) whole), ends.1 ∙ sym (ap (λ p. p.1) whole))

-- a section before those behind it
abbrev pub section_made : List ClType → List Variable → TSection → ℕ → (Sections → Sections) × ℕ
section_made cs vars s n = let at = section_at cs vars s n in (AndSection at.labels at.body, at.behind)

sections_listed : (cs : List ClType) (vars : List Variable) (ss : List TSection) (n : ℕ) → placed_sections (map (section_at cs vars) ss) n ≡ (sections_from (listed (map (section_made cs vars) ss) n).0, (listed (map (section_made cs vars) ss) n).1)
sections_listed cs vars [] n = refl
sections_listed cs vars (s ∷ ss) n =
    let at = section_at cs vars s n in
    ap (λ p. (AndSection at.labels at.body p.0, p.1)) (sections_listed cs vars ss at.behind)

pub sections_end : (cs : List ClType) (vars : List Variable) (ss : List TSection) (n at next : ℕ) (made : List (Sections → Sections)) → ListedTo (section_made cs vars) ss n at made next → length ss ≤ at → IsPair (sections_from made) next (placed_sections (map (section_at cs vars) ss) n)
sections_end cs vars ss n at next made to h =
    let ends = listed_end (section_made cs vars) ss n at made next to h in
    let whole = sections_listed cs vars ss n in
    (ap sections_from ends.0 ∙ sym (ap (λ p. p.0) whole), ends.1 ∙ sym (ap (λ p. p.1) whole))

-- ---- arms and bodies

pub first_arm : (ss : List PlainStmt) → stmts_by (take 1 ss) ≡ (arms (stmts_by ss)).0
first_arm [] = refl
first_arm (s ∷ ss) = refl

pub second_arm : (ss : List PlainStmt) → stmts_by (drop 1 ss) ≡ (arms (stmts_by ss)).1
second_arm [] = refl
second_arm (s ∷ ss) = refl

pub body_given : (ss : List PlainStmt) → 0 < length ss → stmts_by ss ≡ loop_body (stmts_by ss)
body_given [] h = absurd (omega arith)
body_given (s ∷ ss) h = refl

pub body_missing : (ss made : List PlainStmt) (s : PlainStmt) → length ss ≡ 0 → stmt_by s ≡ Empty → made ≡ ss ++ s ∷ [] → stmts_by made ≡ loop_body (stmts_by ss)
body_missing [] made s h e is = ap stmts_by is ∙ ap (λ z. AndStmt z NoStmt) e
body_missing (t ∷ ss) made s h e is = absurd (omega arith)

pub ruleset bodies = (body_given, body_missing)
