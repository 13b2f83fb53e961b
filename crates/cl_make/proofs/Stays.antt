-- What is known of types, trees, operands and declarations in a table holds in each that has its types and maybe more.
use Rattle.std.proofs.Common.{◌≡◌, ℕ, List, [], ◌∷◌, refl, sym, ap, ◌∙◌, subst}
use Rattle.std.proofs.lemmas.List.Elements.{All-weaker}
use Rattle.clv_place.specs.declared.place.Place.{Place}
use Rattle.cl_types.specs.declared.types.ClType.{ClType}
use Rattle.cl_types.specs.declared.types.ClType.TheVariants as ty
use Rattle.cl_types.specs.declared.types.TypeId.{TypeId}
use Rattle.cl_types.specs.Table.{IsTable}
use Rattle.cl_builtins.specs.declared.kind.Gentype.{Gentype}
use Rattle.cl_builtins.specs.Found.{IsKnown, AreKnown, IsGrown}
use Rattle.cl_builtins.specs.Kinds.{kind_of}
use Rattle.cl_builtins.specs.Tables.{IsAt}
use Rattle.cl_builtins.proofs.Growth.{grown_same, grown_twice, grown_known, grown_get, at_known, kind_kept}
use Rattle.cl_tree.specs.declared.expression.TExpr.{TExpr}
use Rattle.cl_tree.specs.declared.expression.TNode.TheViews.{out-TExpr}
use Rattle.cl_tree.specs.Constants.{number_in, positive_in, constancy_of, number_of, positive_of, known_of}
use Rattle.cl_tree.specs.Shapes.{shape_of}
use Rattle.cl_rules.specs.declared.rule.Made.{Made}
use Rattle.cl_rules.specs.declared.rule.Operand.{Operand}
use Rattle.cl_rules.specs.declared.rule.Qualified.{Qualified}
use Rattle.cl_words.specs.declared.naming.Sketch.{Sketch}
use Rattle.cl_rules.specs.declared.rule.Want.{Want}
use Rattle.cl_scope.specs.declared.scope.Declared.{Declared}
use Rattle.cl_scope.specs.declared.scope.Signature.{Signature}
use Rattle.cl_scope.specs.Names.{Env}
use Rattle.cl_scope.specs.Scopes.{AreKnownIn, SignaturesKnownIn, IsKnownEnv}
use Rattle.cl_make.specs.declared.typed.Typed.{Typed}
use Rattle.cl_make.specs.Building.{IsConverted, unasked, fitting, converted, AreConverted, none, more, IsMade, IsNumber, operand_of, value_of}
use Rattle.cl_make.specs.Ready.{From, IsSteady, IsReadyOperand, IsReady, AreReady, IsReadyType, IsStable}
use Rattle.cl_make.specs.Wanted.{IsArrayOf, no_array, array, IsWanted, by_number, by_shape, IsDeclaredAs, IsGivable}
use Rattle.cl_make.proofs.Growing.{shape_stays}

-- what holds from a table on holds from each longer one on
pub from_stays : (old new : List ClType) (P : List ClType → Type 0) → IsGrown old new → From old P → From new P
from_stays old new P g h = λ later f. h later (grown_twice old new later g f)

-- it holds in the table itself
pub from_now : (cs : List ClType) (P : List ClType → Type 0) → From cs P → P cs
from_now cs P h = h cs (grown_same cs cs refl)

pub kind_stays : (old new : List ClType) (t : TypeId) → IsTable old → IsGrown old new → IsKnown old t → kind_of new t ≡ kind_of old t
kind_stays old new t b g k = kind_kept old new b.built g t k

-- ---- numbers of types

pub at_stays : (old new : List ClType) (c : ClType) (t : TypeId) → IsGrown old new → IsAt old c t → IsAt new c t
at_stays old new c t g h = grown_get old new t.0 g (at_known old c t h) ∙ h

pub wanted_stays : (old new : List ClType) (w : Want) (t : TypeId) → IsTable old → IsGrown old new → IsWanted old w t → IsWanted new w t
wanted_stays old new w t b g (by_number u k) = by_number u (grown_known old new u g k)
wanted_stays old new w t b g (by_shape s u k e) = by_shape s u (grown_known old new u g k) (shape_stays old new u b g k ∙ e)

pub wanted_known : (cs : List ClType) (w : Want) (t : TypeId) → IsWanted cs w t → IsKnown cs t
wanted_known cs w t (by_number u k) = k
wanted_known cs w t (by_shape s u k e) = k

pub array_stays : (old new : List ClType) (elem : TypeId) (ns : List ℕ) (t : TypeId) → IsGrown old new → IsArrayOf old elem ns t → IsArrayOf new elem ns t
array_stays old new elem ns t g (no_array u) = no_array u
array_stays old new elem ns t g (array x u v n ms r e) = array x u v n ms (array_stays old new x ms u g r) (at_stays old new (ty.Array u n) v g e)

pub declared_stays : (old new : List ClType) (k : Sketch) (first : ℕ) (t : TypeId) → IsTable old → IsGrown old new → IsDeclaredAs old k first t → IsDeclaredAs new k first t
declared_stays old new k first t b g h = record { elem = h.elem; wanted = wanted_stays old new k.of h.elem b g h.wanted; arrays = array_stays old new h.elem _ t g h.arrays }

-- ---- nodes

pub converted_stays : (old new : List ClType) (w : Want) (t u : TExpr) → IsTable old → IsGrown old new → IsConverted old w t u → IsConverted new w t u
converted_stays old new w t u b g (unasked v) = unasked v
converted_stays old new w t u b g (fitting x v h) = fitting x v (wanted_stays old new x _ b g h)
converted_stays old new w t u b g (converted x s v y h n i) = converted x s v y (wanted_stays old new x s b g h) n i

-- an operand of which a type is wanted has it behind its conversion
pub converted_root : (cs : List ClType) (w : Want) (t u : TExpr) → IsGivable cs w → IsConverted cs w t u → IsWanted cs w (out-TExpr u).ty
converted_root cs w t u g (unasked v) = absurd g
converted_root cs w t u g (fitting x v h) = h
converted_root cs w t u g (converted x s v y h n i) = subst (IsWanted cs x) (sym i.is.has) h

pub all_converted_stay : (old new : List ClType) (ws : List Want) (ts us : List TExpr) → IsTable old → IsGrown old new → AreConverted old ws ts us → AreConverted new ws ts us
all_converted_stay old new ws ts us b g none = none
all_converted_stay old new ws ts us b g (more w vs t u xs ys i r) = more w vs t u xs ys (converted_stays old new w t u b g i) (all_converted_stay old new vs xs ys b g r)

pub made_stays : (old new : List ClType) (m : Made) (place : Place) (ts : List TExpr) (t : TExpr) (o : Operand) → IsTable old → IsGrown old new → IsMade old m place ts t o → IsMade new m place ts t o
made_stays old new m place ts t o b g h = record {
  ty = h.ty;
  operands = h.operands;
  gives = wanted_stays old new m.gives h.ty b g h.gives;
  converts = all_converted_stay old new m.wants ts h.operands b g h.converts;
  is = h.is;
  known = h.known ∙ ap (λ s. record (operand_of old h.ty m) { shape = s }) (sym (shape_stays old new h.ty b g (wanted_known old m.gives h.ty h.gives)));
}

pub number_stays : (old new : List ClType) (t : Gentype) (n : ℕ) (place : Place) (e : TExpr) (o : Operand) → IsTable old → IsGrown old new → IsNumber old t n place e o → IsNumber new t n place e o
number_stays old new t n place e o b g h = record {
  ty = h.ty;
  bits = h.bits;
  gives = wanted_stays old new _ h.ty b g h.gives;
  width = h.width;
  pattern = h.pattern;
  is = h.is;
  known = h.known ∙ ap (λ s. record (value_of old h.ty) { shape = s }) (sym (shape_stays old new h.ty b g (wanted_known old _ h.ty h.gives)));
}

-- ---- constants

pub steady_stays : (old new : List ClType) (t : TExpr) → IsGrown old new → IsSteady old t → IsSteady new t
steady_stays old new t g h = λ later f. h later (grown_twice old new later g f) ∙ sym (h new g)

pub constancy_stays : (old new : List ClType) (t : TExpr) → IsGrown old new → IsSteady old t → constancy_of new t ≡ constancy_of old t
constancy_stays old new t g h = ap (λ k. k.is) (h new g)

root_shape_stays : (old new : List ClType) (t : TExpr) → IsTable old → IsGrown old new → IsStable old t → shape_of new (known_of t new).ty ≡ shape_of old (known_of t old).ty
root_shape_stays old new t b g h = ap (λ k. shape_of new k.ty) (h.steady new g) ∙ shape_stays old new (known_of t old).ty b g h.known

pub number_of_stays : (old new : List ClType) (t : TExpr) → IsTable old → IsGrown old new → IsStable old t → number_of new t ≡ number_of old t
number_of_stays old new t b g h = λ i. number_in (root_shape_stays old new t b g h i) (constancy_stays old new t g h.steady i)

pub positive_stays : (old new : List ClType) (t : TExpr) → IsTable old → IsGrown old new → IsStable old t → positive_of new t ≡ positive_of old t
positive_stays old new t b g h = λ i. positive_in (root_shape_stays old new t b g h i) (number_of_stays old new t b g h i)

-- ---- operands

pub ready_operand_stays : (old new : List ClType) (o : Operand) → IsTable old → IsGrown old new → IsReadyOperand old o → IsReadyOperand new o
ready_operand_stays old new o b g h = record { known = grown_known old new o.facts.ty g h.known; shape = h.shape ∙ sym (shape_stays old new o.facts.ty b g h.known) }

pub ready_type_stays : (old new : List ClType) (q : Qualified) → IsTable old → IsGrown old new → IsReadyType old q → IsReadyType new q
ready_type_stays old new q b g h = record { known = grown_known old new q.ty g h.known; shape = h.shape ∙ sym (shape_stays old new q.ty b g h.known) }

pub ready_stays : (old new : List ClType) (r : Typed) → IsTable old → IsGrown old new → IsReady old r → IsReady new r
ready_stays old new r b g h = record {
  operand = ready_operand_stays old new r.operand b g h.operand;
  root = ap (λ k. k.ty) (h.steady new g) ∙ h.root;
  steady = steady_stays old new r.tree g h.steady;
}

pub all_ready_stay : (old new : List ClType) (rs : List Typed) → IsTable old → IsGrown old new → AreReady old rs → AreReady new rs
all_ready_stay old new rs b g h = All-weaker (IsReady old) (IsReady new) (λ r i. ready_stays old new r b g i) rs h

-- ---- declarations

pub all_known_stay : (old new : List ClType) (ts : List TypeId) → IsGrown old new → AreKnown old ts → AreKnown new ts
all_known_stay old new ts g h = All-weaker (IsKnown old) (IsKnown new) (λ t k. grown_known old new t g k) ts h

declared_known_stay : (old new : List ClType) (ds : List Declared) → IsGrown old new → AreKnownIn old ds → AreKnownIn new ds
declared_known_stay old new [] g h = tt
declared_known_stay old new (d ∷ ds) g h = (grown_known old new d.ty g h.0, declared_known_stay old new ds g h.1)

signatures_known_stay : (old new : List ClType) (fs : List Signature) → IsGrown old new → SignaturesKnownIn old fs → SignaturesKnownIn new fs
signatures_known_stay old new [] g h = tt
signatures_known_stay old new (f ∷ fs) g h = (all_known_stay old new f.params g h.0, grown_known old new f.result g h.1, signatures_known_stay old new fs g h.2)

pub env_stays : (old new : List ClType) (env : Env) → IsGrown old new → IsKnownEnv old env → IsKnownEnv new env
env_stays old new env g h = record {
  outer = declared_known_stay old new env.outer g h.outer;
  inner = declared_known_stay old new env.inner g h.inner;
  functions = signatures_known_stay old new env.functions g h.functions;
}
