-- What stands at file scope, one after another.
use Rattle.std.proofs.Common.{◌≡◌, ℕ, ◌+◌, ◌<◌, ◌≤◌, Bool, List, [], length, drop, get_or, refl, sym, subst}
use Rattle.std.proofs.lemmas.List.Elements.{All-nil}
use Rattle.clv_place.specs.declared.stop.Offence.{Offence}
use Rattle.clv_place.specs.declared.stop.Stop.{Stop}
use Rattle.clv_place.specs.declared.stop.Stop.TheVariants.{Out, NoMemory}
use Rattle.cl_types.specs.declared.types.ClType.{ClType}
use Rattle.cl_types.specs.Table.{IsTable}
use Rattle.cl_builtins.specs.Found.{IsKnown, AreKnown}
use Rattle.cl_ast.specs.declared.declaration.External.{External}
use Rattle.cl_ast.specs.declared.declaration.InitDeclor.{InitDeclor}
use Rattle.cl_ast.specs.declared.declaration.Param.{Param}
use Rattle.cl_tree.specs.declared.unit.Variable.{Variable}
use Rattle.cl_tree.specs.Units.{types_of}
use Rattle.cl_make.proofs.Stays.{all_known_stay}
use Rattle.cl_rules.specs.declared.rule.Qualified.{Qualified}
use Rattle.cl_scope.specs.Names.{Env}
use Rattle.cl_scope.specs.Scopes.{IsKnownEnv}
use Rattle.cl_make.specs.Ready.{Grows}
use Rattle.cl_typing.specs.declared.unit_state.UnitState.{UnitState}
use Rattle.cl_typing.specs.UnitAnswers.{ParamIs, ParamStops, ParamsAreTyped, ParamsStop, ConstantIs, ConstantStops, ConstantsAreDeclared, ConstantsStopAt, ExternalIsTyped, ExternalStops, UnitIsTyped, UnitStops}
use Rattle.cl_typing.specs.Units.{ParamsAre, ParamsOffend, ConstantsDeclared, SomeConstantOffends, UnitIs, SomeExternalOffends, no_param, none_declared, no_external, more_externals, this_external, later_external}
use Rattle.cl_typing.proofs.SoFar.{SoFar, so_far_start, so_far_next, so_far_stop, so_far_end}

-- Nothing comes out of these loops but the state.
abbrev Nothing : Type 0
Nothing = Unit {0}

-- ---- parameters

pub record ParamState : Type 0 where
  pub env : Env
  pub before : List Variable

abbrev pub param_state : Env → List Variable → ParamState
param_state env before = record { env = env; before = before }

abbrev pub ParamsGo : Bool → List ClType → ParamState → List Param → ParamState → List Nothing → Type 0
ParamsGo kernel cs st ps after ns = ParamsAre cs kernel st.env st.before ps after.env after.before

abbrev pub ParamsHold : Bool → List ClType → ParamState → List Param → Offence → Type 0
ParamsHold kernel cs st ps o = ParamsOffend cs kernel st.env st.before ps o

pub record ParamsSoFar (kernel : Bool) (first now : List ClType) (env : Env) (ps : List Param) (i : ℕ) (here : Env) (params : List Variable) : Type 0 where
  pub goes : SoFar (ParamsGo kernel) (ParamsHold kernel) first now (param_state env []) ps i (param_state here params) []
  pub types : AreKnown now (types_of params)
  pub known : IsKnownEnv now here

module _ (kernel : Bool) where
  pub params_start : (cs : List ClType) (env : Env) (ps : List Param) (params : List Variable) → params ≡ [] → IsTable cs → IsKnownEnv cs env → ParamsSoFar kernel cs cs env ps 0 env params
  params_start cs env ps params none b known = record {
    goes = subst (λ z. SoFar (ParamsGo kernel) (ParamsHold kernel) cs cs (param_state env []) ps 0 (param_state env z) []) (sym none)
        (so_far_start (ParamsGo kernel) (ParamsHold kernel) cs (param_state env []) ps [] refl b);
    types = subst (λ z. AreKnown cs (types_of z)) (sym none) (All-nil (IsKnown cs));
    known = known;
  }

  module _ (first now new : List ClType) (env : Env) (ps : List Param) (i : ℕ) (here : Env) (params : List Variable) (p : Param) (h : ParamsSoFar kernel first now env ps i here params) (low : i < length ps) (is : p ≡ get_or ps i p) (g : Grows now new) where
    pub params_next : (there : Env) (all : List Variable) → ParamIs new kernel here params p there all → ParamsSoFar kernel first new env ps (i + 1) there all
    params_next there all one = record {
      goes = so_far_next (ParamsGo kernel) (ParamsHold kernel) first now new (param_state env []) (param_state here params) ps i [] p h.goes low is g (param_state there all) [] [] refl
          (λ more m after us rest. one.params more m (drop (i + 1) ps) after.env after.before rest)
          (λ more m o rest. one.stops more m (drop (i + 1) ps) o rest);
      types = one.types (all_known_stay now new (types_of params) g.grown h.types);
      known = one.known;
    }

    pub params_stop : (x : Stop) → ParamStops new kernel here params p x → ParamsStop new kernel env ps x
    params_stop NoMemory stops = tt
    params_stop (Out o) stops = so_far_stop (ParamsGo kernel) (ParamsHold kernel) first now new (param_state env []) (param_state here params) ps i [] p h.goes low is g o (λ more m. stops more m (drop (i + 1) ps))

  pub params_end : (first now : List ClType) (env : Env) (ps : List Param) (i : ℕ) (here : Env) (params : List Variable) → ParamsSoFar kernel first now env ps i here params → length ps ≤ i → ParamsAreTyped now kernel env ps here params
  params_end first now env ps i here params h done = record {
    params = so_far_end (ParamsGo kernel) (ParamsHold kernel) first now (param_state env []) (param_state here params) ps i [] h.goes done (λ more m. no_param here params);
    types = h.types;
    known = h.known;
  }

-- ---- constants

abbrev pub ConstantsGo : Qualified → List ClType → UnitState → List InitDeclor → UnitState → List Nothing → Type 0
ConstantsGo q cs u ds after ns = ConstantsDeclared cs u q ds after

abbrev pub ConstantsHold : Qualified → List ClType → UnitState → List InitDeclor → Offence → Type 0
ConstantsHold q cs u ds o = SomeConstantOffends cs u q ds o

pub record ConstantsSoFar (q : Qualified) (first now : List ClType) (u : UnitState) (ds : List InitDeclor) (i : ℕ) (here : UnitState) : Type 0 where
  pub goes : SoFar (ConstantsGo q) (ConstantsHold q) first now u ds i here []
  pub known : IsKnownEnv now here.env

module _ (q : Qualified) where
  pub constants_start : (cs : List ClType) (u : UnitState) (ds : List InitDeclor) → IsTable cs → IsKnownEnv cs u.env → ConstantsSoFar q cs cs u ds 0 u
  constants_start cs u ds b known = record { goes = so_far_start (ConstantsGo q) (ConstantsHold q) cs u ds [] refl b; known = known }

  module _ (first now new : List ClType) (u : UnitState) (ds : List InitDeclor) (i : ℕ) (here : UnitState) (d : InitDeclor) (h : ConstantsSoFar q first now u ds i here) (low : i < length ds) (is : d ≡ get_or ds i d) (g : Grows now new) where
    pub constants_next : (there : UnitState) → ConstantIs new q here d there → ConstantsSoFar q first new u ds (i + 1) there
    constants_next there one = record {
      goes = so_far_next (ConstantsGo q) (ConstantsHold q) first now new u here ds i [] d h.goes low is g there [] [] refl
          (λ more m after us rest. one.constants more m (drop (i + 1) ds) after rest)
          (λ more m o rest. one.stops more m (drop (i + 1) ds) o rest);
      known = one.known;
    }

    pub constants_stop : (x : Stop) → ConstantStops new q here d x → ConstantsStopAt new q u ds x
    constants_stop NoMemory stops = tt
    constants_stop (Out o) stops = so_far_stop (ConstantsGo q) (ConstantsHold q) first now new u here ds i [] d h.goes low is g o (λ more m. stops more m (drop (i + 1) ds))

  pub constants_end : (first now : List ClType) (u : UnitState) (ds : List InitDeclor) (i : ℕ) (here : UnitState) → ConstantsSoFar q first now u ds i here → length ds ≤ i → ConstantsAreDeclared now q u ds here
  constants_end first now u ds i here h done = record {
    constants = so_far_end (ConstantsGo q) (ConstantsHold q) first now u here ds i [] h.goes done (λ more m. none_declared here q);
    known = h.known;
  }

-- ---- externals

abbrev pub UnitGoes : List (List ℕ) → List ClType → UnitState → List External → UnitState → List Nothing → Type 0
UnitGoes bodies cs u es after ns = UnitIs cs bodies u es after

abbrev pub UnitHolds : List (List ℕ) → List ClType → UnitState → List External → Offence → Type 0
UnitHolds bodies cs u es o = SomeExternalOffends cs bodies u es o

pub record UnitSoFar (bodies : List (List ℕ)) (first now : List ClType) (u : UnitState) (es : List External) (i : ℕ) (here : UnitState) : Type 0 where
  pub goes : SoFar (UnitGoes bodies) (UnitHolds bodies) first now u es i here []
  pub known : IsKnownEnv now here.env

module _ (bodies : List (List ℕ)) where
  pub unit_start : (cs : List ClType) (u here : UnitState) (es : List External) → here ≡ u → IsTable cs → IsKnownEnv cs u.env → UnitSoFar bodies cs cs u es 0 here
  unit_start cs u here es is b known = subst (UnitSoFar bodies cs cs u es 0) (sym is) (record { goes = so_far_start (UnitGoes bodies) (UnitHolds bodies) cs u es [] refl b; known = known })

  module _ (first now new : List ClType) (u : UnitState) (es : List External) (i : ℕ) (here : UnitState) (e : External) (h : UnitSoFar bodies first now u es i here) (low : i < length es) (is : e ≡ get_or es i e) (g : Grows now new) where
    pub unit_next : (there : UnitState) → ExternalIsTyped new bodies here e there → UnitSoFar bodies first new u es (i + 1) there
    unit_next there one = record {
      goes = so_far_next (UnitGoes bodies) (UnitHolds bodies) first now new u here es i [] e h.goes low is g there [] [] refl
          (λ more m after us rest. more_externals here there after e (drop (i + 1) es) (one.is more m) rest)
          (λ more m o rest. later_external here there e (drop (i + 1) es) o (one.is more m) rest);
      known = one.known;
    }

    pub unit_stop : (x : Stop) → ExternalStops new bodies here e x → UnitStops new bodies u es x
    unit_stop NoMemory stops = tt
    unit_stop (Out o) stops = so_far_stop (UnitGoes bodies) (UnitHolds bodies) first now new u here es i [] e h.goes low is g o (λ more m. this_external here e (drop (i + 1) es) o (stops more m))

  pub unit_end : (first now : List ClType) (u : UnitState) (es : List External) (i : ℕ) (here : UnitState) → UnitSoFar bodies first now u es i here → length es ≤ i → UnitIsTyped now bodies u es here
  unit_end first now u es i here h done = record {
    is = so_far_end (UnitGoes bodies) (UnitHolds bodies) first now u here es i [] h.goes done (λ more m. no_external here);
  }
