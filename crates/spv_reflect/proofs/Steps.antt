-- The steps of the loops over a module's reflection lines.
use Rattle.std.proofs.Common.{◌≡◌, ℕ, ◌+◌, ◌-◌, ◌≤◌, ◌++◌, Bool, true, false, List, [], ◌∷◌, Option, Some, None, length, take, drop, get_or, refl, sym, ap, subst, ◌∙◌, arith, append_assoc, append-nil, suc}
use Rattle.std.specs.Prelude.{if◌then◌else◌, option_map}
use Rattle.std.proofs.lemmas.List.{take_all, length-take}
use Rattle.std.proofs.Math.Seq.{take-append-add}
use Rattle.spv_module.specs.Instructions.{said}
use Rattle.spv_module.specs.declared.module.Inst.{Inst}
use Rattle.spv_reflect.specs.declared.line.Line.{Line as Reading}
use Rattle.spv_reflect.specs.declared.line.PlacedLine.{PlacedLine}
use Rattle.spv_reflect.specs.Reflection.{Line, arguments_among, keeps, line_of}
use Rattle.spv_reflect.specs.Readings.{Placed, line_by, placed_at, placed_by, lines_by, lines_from, first_break}

-- The lines so far are read, and those of the rest are to be read.
pub record IsReading (body : List Inst) (lines : List PlacedLine) (at : ℕ) (rest : List Inst) : Type 0 where
  pub stands : at + length rest ≡ length body
  pub so_far : placed_by lines ++ lines_from body at rest ≡ lines_from body 0 body

pub record IsCounting (kernel : ℕ) (lines : List PlacedLine) (count : ℕ) (rest : List PlacedLine) : Type 0 where
  pub so_far : count + arguments_among kernel (lines_by rest) ≡ arguments_among kernel (lines_by lines)
  pub small : count + length rest ≤ length lines

-- The lines before the rest keep the rule.
pub record IsJudging (rule : ℕ) (lines : List PlacedLine) (at : ℕ) (rest : List PlacedLine) : Type 0 where
  pub stands : at + length rest ≡ length lines
  pub parted : take at lines ++ rest ≡ lines
  pub so_far : first_break rule (lines_by lines) (lines_by (take at lines)) (placed_by rest) ≡ first_break rule (lines_by lines) [] (placed_by lines)

-- ---- what is left of a slice behind its first

left : {A : Type 0} (x : A) (xs : List A) → take (length (x ∷ xs) - 1) (drop 1 (x ∷ xs)) ≡ xs
left x xs = take_all (length (x ∷ xs) - 1) xs (omega arith)

-- ---- lines are read

placed-behind : (at : ℕ) (o : Option Line) (ps : List Placed) → placed_at at o [] ++ ps ≡ placed_at at o ps
placed-behind at None ps = refl
placed-behind at (Some l) ps = refl

reading_on : (body : List Inst) (lines new : List PlacedLine) (at : ℕ) (i : Inst) (is : List Inst) (o : Option Reading) → IsReading body lines at (i ∷ is) → option_map line_by o ≡ line_of body (said i) → placed_by new ≡ placed_by lines ++ placed_at at (option_map line_by o) [] → IsReading body new (at + 1) is
reading_on body lines new at i is o h read added =
    let next : at + 1 ≡ suc at = omega arith in
    let e : placed_by new ++ lines_from body (suc at) is ≡ lines_from body 0 body =
    ap (λ ps. ps ++ lines_from body (suc at) is) added
    ∙ append_assoc (placed_by lines) (placed_at at (option_map line_by o) []) (lines_from body (suc at) is)
    ∙ ap (λ ps. placed_by lines ++ ps) (placed-behind at (option_map line_by o) (lines_from body (suc at) is))
    ∙ ap (λ (p : Option Line). placed_by lines ++ placed_at at p (lines_from body (suc at) is)) read
    ∙ h.so_far in
    record { stands = omega (arith, h.stands); so_far = ap (λ n. placed_by new ++ lines_from body n is) next ∙ e }

pub reading_more : (body : List Inst) (lines new : List PlacedLine) (at : ℕ) (rest : List Inst) (i : Inst) (o : Option Reading) → IsReading body lines at rest → 1 ≤ length rest → i ≡ get_or rest 0 i → option_map line_by o ≡ line_of body (said i) → placed_by new ≡ placed_by lines ++ placed_at at (option_map line_by o) [] → IsReading body new (at + 1) (take (length rest - 1) (drop 1 rest))
reading_more body lines new at [] i o h some is_first read added = absurd (omega arith)
reading_more body lines new at (j ∷ is) i o h some is_first read added =
    subst (IsReading body new (at + 1)) (sym (left j is)) (reading_on body lines new at j is o h (read ∙ ap (λ k. line_of body (said k)) is_first) added)

-- ---- lines are judged

lines_by-append : (xs ys : List PlacedLine) → lines_by (xs ++ ys) ≡ lines_by xs ++ lines_by ys
lines_by-append [] ys = refl
lines_by-append (x ∷ xs) ys = ap (λ ls. line_by x.line ∷ ls) (lines_by-append xs ys)

chosen : {A : Type 0} (b : Bool) (x y : A) → true ≡ b → (if b then x else y) ≡ x
chosen true x y e = refl
chosen false x y e = absurd (cc)

take_one : (at : ℕ) (lines : List PlacedLine) (x : PlacedLine) (xs : List PlacedLine) → at + length (x ∷ xs) ≡ length lines → take at lines ++ x ∷ xs ≡ lines → take (at + 1) lines ≡ take at lines ++ x ∷ []
take_one at lines x xs long e =
    let n : length (take at lines) ≡ at = omega (arith, length-take at lines) in
    ap (λ k. take (k + 1) lines) (sym n) ∙ ap (take (length (take at lines) + 1)) (sym e) ∙ take-append-add (take at lines) (x ∷ xs) 1

judging_on : (rule : ℕ) (lines : List PlacedLine) (at : ℕ) (x : PlacedLine) (xs : List PlacedLine) → IsJudging rule lines at (x ∷ xs) → true ≡ keeps rule (lines_by lines) (lines_by (take at lines)) (line_by x.line) → IsJudging rule lines (at + 1) xs
judging_on rule lines at x xs h kept =
    let more = take_one at lines x xs h.stands h.parted in
    let seen : lines_by (take (at + 1) lines) ≡ lines_by (take at lines) ++ line_by x.line ∷ [] = ap lines_by more ∙ lines_by-append (take at lines) (x ∷ []) in
    record {
      stands = omega (arith, h.stands);
      parted = ap (λ ys. ys ++ xs) more ∙ append_assoc (take at lines) (x ∷ []) xs ∙ h.parted;
      so_far =
          ap (λ (ls : List Line). first_break rule (lines_by lines) ls (placed_by xs)) seen
          ∙ sym (chosen (keeps rule (lines_by lines) (lines_by (take at lines)) (line_by x.line)) (first_break rule (lines_by lines) (lines_by (take at lines) ++ line_by x.line ∷ []) (placed_by xs)) (Some x.place) kept)
          ∙ h.so_far;
    }

pub judging_more : (rule : ℕ) (lines : List PlacedLine) (at : ℕ) (rest : List PlacedLine) (l : PlacedLine) → IsJudging rule lines at rest → 1 ≤ length rest → l ≡ get_or rest 0 l → true ≡ keeps rule (lines_by lines) (lines_by (take at lines)) (line_by l.line) → IsJudging rule lines (at + 1) (take (length rest - 1) (drop 1 rest))
judging_more rule lines at [] l h some is_first kept = absurd (omega arith)
judging_more rule lines at (x ∷ xs) l h some is_first kept =
    subst (IsJudging rule lines (at + 1)) (sym (left x xs)) (judging_on rule lines at x xs h (kept ∙ ap (λ k. keeps rule (lines_by lines) (lines_by (take at lines)) (line_by k.line)) is_first))

-- ---- a line is added

placed_by-append : (xs ys : List PlacedLine) → placed_by (xs ++ ys) ≡ placed_by xs ++ placed_by ys
placed_by-append [] ys = refl
placed_by-append (x ∷ xs) ys = ap (λ ls. record { place = x.place; line = line_by x.line } ∷ ls) (placed_by-append xs ys)

pub placed_by-more : (xs : List PlacedLine) (x : PlacedLine) → placed_by (xs ++ x ∷ []) ≡ placed_by xs ++ record { place = x.place; line = line_by x.line } ∷ []
placed_by-more xs x = placed_by-append xs (x ∷ [])

pub ruleset added_steps = (placed_by-more, append-nil)
