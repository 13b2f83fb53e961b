-- A module is valid exactly where no line breaks a rule and it lacks nothing.
use Rattle.std.proofs.Common.{◌≡◌, ℕ, Bool, true, false, List, [], ◌∷◌, length, refl, sym, subst, ap, ◌∙◌, eqb-true}
use Rattle.std.specs.Prelude.{◌&&◌, All, Contains, cond, ◌==◌}
use Rattle.std.proofs.lemmas.List.Elements.{All-nil, All-cons, All-head, All-tail, All-weaker, All-contains, All-contains_itself}
use Rattle.spv_module.specs.declared.module.Inst.{Inst}
use Rattle.spv_module.specs.declared.op.TheConstants as op
use Rattle.spv_types_rules.specs.Lines.{Line, Whole, Func, Spot, whole, lines_of, onto, has_op, to_end, functions_in}
use Rattle.spv_types_rules.specs.Structure.{IsStructured}
use Rattle.spv_types_rules.proofs.Structured.{is_structured, structured_passes, passes_structured}
use Rattle.spv_types_rules.specs.Rules.{Rule, rules, spot, Breaks, by_line, by_blocks, Lacks, by_whole, all_keep, IsKept, IsFunctionStructured, IsValid, IsUnbroken, ValidIsUnbroken}

pub left : (x y : Bool) → x && y ≡ true → x ≡ true
left true y e = refl
left false y e = e

pub right : (x y : Bool) → x && y ≡ true → y ≡ true
right true y e = e
right false true e = refl
right false false e = e

pub both : (x y : Bool) → x ≡ true → y ≡ true → x && y ≡ true
both x y p q = ap (λ z. z && y) p ∙ q

pub never : (x : Bool) → x ≡ true → x ≡ false → ⊥
never x p q = let e : true ≡ false = sym p ∙ q in cc

pub so : (x : Bool) → (x ≡ false → ⊥) → x ≡ true
so true h = refl
so false h = absurd (h refl)

-- ---- lines

kept_onto : (keeps : Spot → Bool) (w : Whole) (b ls : List Line) → all_keep keeps w [] (onto b ls) ≡ true → all_keep keeps w b ls ≡ true
kept_onto keeps w [] ls e = e
kept_onto keeps w (p ∷ b) ls e =
    right (keeps (record { whole = w; before = b; here = p; after = ls })) (all_keep keeps w (p ∷ b) ls) (kept_onto keeps w b (p ∷ ls) e)

pub kept_at : (keeps : Spot → Bool) (w : Whole) (all b : List Line) (l : Line) (a : List Line) → all ≡ onto b (l ∷ a) → all_keep keeps w [] all ≡ true → keeps (record { whole = w; before = b; here = l; after = a }) ≡ true
kept_at keeps w all b l a e h =
    left (keeps (record { whole = w; before = b; here = l; after = a })) (all_keep keeps w (l ∷ b) a)
    (kept_onto keeps w b (l ∷ a) (subst (λ (ls : List Line). all_keep keeps w [] ls ≡ true) e h))

kept_if : (keeps : Spot → Bool) (w : Whole) (all : List Line) → ((b : List Line) (l : Line) (a : List Line) → all ≡ onto b (l ∷ a) → keeps (record { whole = w; before = b; here = l; after = a }) ≡ false → ⊥) → (b ls : List Line) → all ≡ onto b ls → all_keep keeps w b ls ≡ true
kept_if keeps w all h b [] e = refl
kept_if keeps w all h b (l ∷ a) e =
    both (keeps (record { whole = w; before = b; here = l; after = a })) (all_keep keeps w (l ∷ b) a)
    (so (keeps (record { whole = w; before = b; here = l; after = a })) (h b l a e))
    (kept_if keeps w all h (l ∷ b) a e)

-- ---- functions

abbrev AreStructured : List Func → Type 0
AreStructured fs = All IsFunctionStructured fs

abbrev function_of : Line → List Line → Func
function_of l a = record { head = l; lines = to_end a }

behind : (c : Bool) (p : Line) (ls : List Line) → has_op op.FUNCTION p ≡ c → AreStructured (functions_in (p ∷ ls)) → AreStructured (functions_in ls)
behind true p ls e h = All-tail IsFunctionStructured (function_of p ls) (functions_in ls) (subst (λ (c : Bool). AreStructured (cond c (function_of p ls ∷ functions_in ls) (functions_in ls))) e h)
behind false p ls e h = subst (λ (c : Bool). AreStructured (cond c (function_of p ls ∷ functions_in ls) (functions_in ls))) e h

behind_onto : (b ls : List Line) → AreStructured (functions_in (onto b ls)) → AreStructured (functions_in ls)
behind_onto [] ls h = h
behind_onto (p ∷ b) ls h = behind (has_op op.FUNCTION p) p ls refl (behind_onto b (p ∷ ls) h)

pub is_function : (l : Line) → l.op ≡ op.FUNCTION → has_op op.FUNCTION l ≡ true
is_function l e = ap (λ n. n == op.FUNCTION) e

structured_at : (all b : List Line) (l : Line) (a : List Line) → all ≡ onto b (l ∷ a) → l.op ≡ op.FUNCTION → AreStructured (functions_in all) → IsStructured (to_end a)
structured_at all b l a e f h =
    All-head IsFunctionStructured (function_of l a) (functions_in a)
    (subst (λ (c : Bool). AreStructured (cond c (function_of l a ∷ functions_in a) (functions_in a))) (is_function l f)
    (behind_onto b (l ∷ a) (subst (λ (ls : List Line). AreStructured (functions_in ls)) e h)))

only_if_structured : (ls : List Line) → ((IsStructured ls → ⊥) → ⊥) → IsStructured ls
only_if_structured ls h = passes_structured ls (so (is_structured ls) (λ f. h (λ s. never (is_structured ls) (structured_passes ls s) f)))

function_if : (c : Bool) (all b : List Line) (l : Line) (a : List Line) → all ≡ onto b (l ∷ a) → has_op op.FUNCTION l ≡ c → (l.op ≡ op.FUNCTION → (IsStructured (to_end a) → ⊥) → ⊥) → AreStructured (functions_in a) → AreStructured (functions_in (l ∷ a))
function_if true all b l a e f h more =
    subst (λ (c : Bool). AreStructured (cond c (function_of l a ∷ functions_in a) (functions_in a))) (sym f)
    (All-cons IsFunctionStructured (function_of l a) (functions_in a) (only_if_structured (to_end a) (h (eqb-true l.op op.FUNCTION f))) more)
function_if false all b l a e f h more = subst (λ (c : Bool). AreStructured (cond c (function_of l a ∷ functions_in a) (functions_in a))) (sym f) more

functions_if : (all : List Line) → ((b : List Line) (l : Line) (a : List Line) → all ≡ onto b (l ∷ a) → l.op ≡ op.FUNCTION → (IsStructured (to_end a) → ⊥) → ⊥) → (b ls : List Line) → all ≡ onto b ls → AreStructured (functions_in ls)
functions_if all h b [] e = All-nil IsFunctionStructured
functions_if all h b (l ∷ a) e = function_if (has_op op.FUNCTION l) all b l a e refl (h b l a e) (functions_if all h (l ∷ b) a e)

-- ---- a module

module _ (body : List Inst) where
  abbrev all : List Line
  all = lines_of body

  valid_lines : IsValid body → (n i : ℕ) → Breaks body n i → ⊥
  valid_lines v _ _ (by_line r i b l a c at f) =
      never (r.keeps (spot all b l a))
      (kept_at r.keeps (whole all) all b l a at.parts (left (all_keep r.keeps (whole all) [] all) (r.has (whole all)) (All-contains (IsKept body) rules r v.kept c)))
      f
  valid_lines v _ _ (by_blocks i b l a at f g) = g (structured_at all b l a at.parts f v.structured)

  valid_whole : IsValid body → (n : ℕ) → Lacks body n → ⊥
  valid_whole v _ (by_whole r c f) =
      never (r.has (whole all)) (right (all_keep r.keeps (whole all) [] all) (r.has (whole all)) (All-contains (IsKept body) rules r v.kept c)) f

  unbroken_rule : IsUnbroken body → (r : Rule) → Contains rules r → IsKept body r
  unbroken_rule u r c =
      both (all_keep r.keeps (whole all) [] all) (r.has (whole all))
      (kept_if r.keeps (whole all) all (λ b l a e f. (u.intact r.number).lines (length b) (by_line r (length b) b l a c (record { parts = e; at = refl }) f)) [] all refl)
      (so (r.has (whole all)) (λ f. (u.intact r.number).whole (by_whole r c f)))

  unbroken_valid : IsUnbroken body → IsValid body
  unbroken_valid u = record {
    built = u.built;
    kept = All-weaker (Contains rules) (IsKept body) (unbroken_rule u) rules (All-contains_itself rules);
    structured = functions_if all (λ b l a e f g. (u.intact 35).lines (length b) (by_blocks (length b) b l a (record { parts = e; at = refl }) f g)) [] all refl;
  }

pub valid_is_unbroken : ValidIsUnbroken
valid_is_unbroken body = (λ v. record { built = v.built; intact = λ n. record { lines = valid_lines body v n; whole = valid_whole body v n } }, unbroken_valid body)
