-- The type of a typedef, by the codes that it breaks.
use Rattle.std.proofs.Common.{◌≡◌, ℕ, Bool, true, false, true≢false, ◌||◌, ◌&&◌, List, [], ◌∷◌, Option, Some, None, is_some, refl, sym, ap, ◌∙◌}
use Rattle.clv_place.specs.declared.place.Place.{Place}
use Rattle.clv_place.specs.declared.stop.Stop.TheVariants.{Out}
use Rattle.cl_types.specs.declared.types.ClType.{ClType}
use Rattle.cl_types.specs.declared.types.TypeId.{TypeId}
use Rattle.cl_types.specs.Table.{IsTable}
use Rattle.cl_ast.specs.declared.expression.Qual.{Qual}
use Rattle.cl_rules.specs.declared.rule.Qualified.{Qualified}
use Rattle.cl_rules.specs.Calls.{is_no_pointee}
use Rattle.cl_rules.specs.Operands.{first_broken}
use Rattle.cl_words.specs.declared.naming.Length.{Length}
use Rattle.cl_words.specs.declared.naming.Sketch.{Sketch}
use Rattle.cl_words.specs.Words.{sketch, no_declared_type, has_restrict, has_lengths, is_no_element, some_wrong, is_large, is_deep, declared_tree, declared_limits_at}
use Rattle.cl_make.proofs.Asked.{pointer_askable}
use Rattle.cl_make.specs.Ready.{From, IsReadyType}
use Rattle.cl_type_expr.specs.Offences.{at}
use Rattle.cl_type_expr.specs.Typing.{IsReadySketch, DeclaredIs}
use Rattle.cl_typing.specs.UnitAnswers.{TypedefIs, TypedefStops}
use Rattle.cl_typing.specs.Units.{typedef_tests_at}

none_some : {x : ℕ} → None ≡ Some x → ⊥
none_some e = true≢false (sym (ap is_some e))

some_none : {x : ℕ} → Some x ≡ None → ⊥
some_none e = true≢false (ap is_some e)

-- the codes before the limits
limits_keep : (a b c d l m : Bool) (code : ℕ) → first_broken ((302, a) ∷ (303, b) ∷ (304, c) ∷ (326, d) ∷ (501, false) ∷ (502, false) ∷ []) ≡ Some code → first_broken ((302, a) ∷ (303, b) ∷ (304, c) ∷ (326, d) ∷ (501, l) ∷ (502, m) ∷ []) ≡ Some code
limits_keep true b c d l m code h = h
limits_keep false true c d l m code h = h
limits_keep false false true d l m code h = h
limits_keep false false false true l m code h = h
limits_keep false false false false l m code h = absurd (none_some h)

limits_alone : (a b c d l m : Bool) → first_broken ((302, a) ∷ (303, b) ∷ (304, c) ∷ (326, d) ∷ (501, false) ∷ (502, false) ∷ []) ≡ None → first_broken ((302, a) ∷ (303, b) ∷ (304, c) ∷ (326, d) ∷ (501, l) ∷ (502, m) ∷ []) ≡ first_broken ((501, l) ∷ (502, m) ∷ [])
limits_alone true b c d l m h = absurd (some_none h)
limits_alone false true c d l m h = absurd (some_none h)
limits_alone false false true d l m h = absurd (some_none h)
limits_alone false false false true l m h = absurd (some_none h)
limits_alone false false false false l m h = refl

element_kept : (a b : Bool) (ts : List (ℕ × Bool)) → first_broken ((302, a) ∷ (303, b) ∷ ts) ≡ None → b ≡ false
element_kept true b ts h = absurd (some_none h)
element_kept false true ts h = absurd (some_none h)
element_kept false false ts h = refl

module _ (again : Bool) (k : Sketch) where
  pub typedef_element : first_broken (typedef_tests_at again k false false) ≡ None → no_declared_type k ≡ false
  typedef_element h = element_kept again (no_declared_type k) ((304, some_wrong k.lengths) ∷ (326, k.clash) ∷ (501, false) ∷ (502, false) ∷ []) h

  module _ (cs : List ClType) (place : Place) where
    pub typedef_code : (code : ℕ) → first_broken (typedef_tests_at again k false false) ≡ Some code → TypedefStops cs again place k (Out (at code place))
    typedef_code code h = (refl, λ more m. limits_keep again (no_declared_type k) (some_wrong k.lengths) k.clash (is_large (declared_tree more k 1)) (is_deep (declared_tree more k 1)) code h)

    pub typedef_limit : (code : ℕ) → first_broken (typedef_tests_at again k false false) ≡ None → From cs (λ more. first_broken (declared_limits_at more k 1) ≡ Some code) → TypedefStops cs again place k (Out (at code place))
    typedef_limit code h limit = (refl, λ more m. limits_alone again (no_declared_type k) (some_wrong k.lengths) k.clash (is_large (declared_tree more k 1)) (is_deep (declared_tree more k 1)) h ∙ limit more m)

  pub typedef_is : (cs : List ClType) (t : TypeId) → first_broken (typedef_tests_at again k false false) ≡ None → DeclaredIs cs k 1 t → TypedefIs cs again k t
  typedef_is cs t h d = record {
    fits = λ more m. limits_alone again (no_declared_type k) (some_wrong k.lengths) k.clash (is_large (declared_tree more k 1)) (is_deep (declared_tree more k 1)) h ∙ d.fits more m;
    is = d.is;
    known = d.known;
  }

or_left : (a b : Bool) → (a || b) ≡ false → a ≡ false
or_left true b h = absurd (true≢false h)
or_left false b h = refl

-- what a declared name is before its lengths can be asked for, where a declaration may have the type
pub sketch_ready : (cs : List ClType) (q : Qualified) (star : Option (List Qual)) (ls : List Length) → IsTable cs → IsReadyType cs q → no_declared_type (sketch q star ls) ≡ false → IsReadySketch cs (sketch q star ls)
sketch_ready cs q None ls b r h = (r.known, r.shape)
sketch_ready cs q (Some qs) ls b r h = (pointer_askable cs b q (has_restrict qs) r (or_left (is_no_pointee q.shape) (has_lengths ls && is_no_element (sketch q (Some qs) ls).shape) h), refl, refl)

pub sketch_lengths : (q : Qualified) (star : Option (List Qual)) (ls : List Length) → (sketch q star ls).lengths ≡ ls
sketch_lengths q None ls = refl
sketch_lengths q (Some qs) ls = refl
