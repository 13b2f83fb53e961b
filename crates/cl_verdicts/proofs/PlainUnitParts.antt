-- The parts of two declarations at file scope that say the same.
use Rattle.std.proofs.Common.{◌≡◌, ℕ, Bool, true, false, ◌||◌, List, [], ◌∷◌, map, Option, is_some, refl, sym, ap, ◌∙◌, subst}
use Rattle.std.specs.Global.{Vec}
use Rattle.clv_place.specs.declared.place.Place.{Place}
use Rattle.cl_ast.specs.declared.declaration.External.{External}
use Rattle.cl_ast.specs.declared.declaration.External.TheVariants as external
use Rattle.cl_ast.specs.declared.declaration.FWord.{FWord}
use Rattle.cl_ast.specs.declared.declaration.FWord.TheVariants as fword
use Rattle.cl_ast.specs.declared.declaration.InitDeclor.{InitDeclor}
use Rattle.cl_ast.specs.declared.declaration.Param.{Param}
use Rattle.cl_ast.specs.declared.expression.Declor.{Declor}
use Rattle.cl_ast.specs.declared.expression.Expr.{Expr}
use Rattle.cl_ast.specs.declared.expression.Qual.{Qual}
use Rattle.cl_ast.specs.declared.expression.Spec.{Spec}
use Rattle.cl_ast.specs.declared.statement.Stmt.{Stmt}
use Rattle.cl_typing.specs.Units.{requires, is_kernel_word, is_kernel, with_body, bodies_behind, body_names, IsBody, block, other}
use Rattle.cl_plain.specs.Plain.{Plain, Plains, Head, tree, plains, over, plain_expr, plain_spec, plain_declor, plain_declared, in_option, plain_stmt, plain_word, plain_param, plain_external}
use Rattle.cl_plain.specs.Plain as h
use Rattle.cl_verdicts.proofs.PlainAlike.{Alike, nothing, each, MayBeAlike, both_missing, both_given, may_be_alike, plains_alike, head_of, parts_of, first_same, others_same}
use Rattle.cl_verdicts.proofs.PlainStmtParts.{block_as}

-- ---- declarations

pub data ExternalAs : External → External → Type 0 where
  typedef_as : (spec said : Spec) (name declared : Declor) → plain_spec spec ≡ plain_spec said → plain_declor name ≡ plain_declor declared → ExternalAs (external.Typedef spec name) (external.Typedef said declared)
  types_as : (spec said : Spec) → plain_spec spec ≡ plain_spec said → ExternalAs (external.Struct spec) (external.Struct said)
  constants_as : (spec said : Spec) (all items : Vec InitDeclor) → plain_spec spec ≡ plain_spec said → Alike plain_declared all.items items.items → ExternalAs (external.Constant spec all) (external.Constant said items)
  function_as : (before words : Vec FWord) (spec said : Spec) (name : List ℕ) (place : Place) (takes params : Vec Param) (block body : Option Stmt) → Alike plain_word before.items words.items → plain_spec spec ≡ plain_spec said → Alike plain_param takes.items params.items → MayBeAlike plain_stmt block body → ExternalAs (external.Function before spec name place takes block) (external.Function words said name place params body)

-- what a declaration is that says this
abbrev Said : Head → Plains → External → Type 0
Said h.typedef ts x = (said : Spec) × (name : Declor) × (x ≡ external.Typedef said name) × (plains (plain_spec said ∷ plain_declor name ∷ []) ≡ ts)
Said h.types ts x = (said : Spec) × (x ≡ external.Struct said) × (plains (plain_spec said ∷ []) ≡ ts)
Said h.constants ts x = (said : Spec) × (items : Vec InitDeclor) × (x ≡ external.Constant said items) × (plains (plain_spec said ∷ map plain_declared items.items) ≡ ts)
Said (h.function name place) ts x = (words : Vec FWord) × (said : Spec) × (params : Vec Param) × (body : Option Stmt) × (x ≡ external.Function words said name place params body) × (plains (over h.list (map plain_word words.items) ∷ plain_spec said ∷ over h.list (map plain_param params.items) ∷ in_option plain_stmt body ∷ []) ≡ ts)
Said _ ts x = Unit {0}

abbrev SaidIn : Plain → External → Type 0
SaidIn (tree h ts) x = Said h ts x

said_in : (x : External) → SaidIn (plain_external x) x
said_in (external.Typedef said name) = (said, name, refl, refl)
said_in (external.Struct said) = (said, refl, refl)
said_in (external.Constant said items) = (said, items, refl, refl)
said_in (external.Function words said name place params body) = (words, said, params, body, refl, refl)

pub external_as : (e f : External) → plain_external f ≡ plain_external e → ExternalAs f e
external_as (external.Typedef said name) f p =
    let x = subst (λ t. SaidIn t f) p (said_in f) in
    subst (λ g. ExternalAs g (external.Typedef said name)) (sym x.2) (typedef_as x.0 said x.1 name (first_same _ _ _ _ x.3) (first_same _ _ _ _ (others_same _ _ _ _ x.3)))
external_as (external.Struct said) f p =
    let x = subst (λ t. SaidIn t f) p (said_in f) in
    subst (λ g. ExternalAs g (external.Struct said)) (sym x.1) (types_as x.0 said (first_same _ _ _ _ x.2))
external_as (external.Constant said items) f p =
    let x = subst (λ t. SaidIn t f) p (said_in f) in
    subst (λ g. ExternalAs g (external.Constant said items)) (sym x.2) (constants_as x.0 said x.1 items (first_same _ _ _ _ x.3) (plains_alike plain_declared _ _ (others_same _ _ _ _ x.3)))
external_as (external.Function words said name place params body) f p =
    let x = subst (λ t. SaidIn t f) p (said_in f) in
    let b = others_same _ _ _ _ x.5 in
    let c = others_same _ _ _ _ b in
    subst (λ g. ExternalAs g (external.Function words said name place params body)) (sym x.4)
    (function_as x.0 words x.1 said name place x.2 params x.3 body (plains_alike plain_word _ _ (ap parts_of (first_same _ _ _ _ x.5))) (first_same _ _ _ _ b)
    (plains_alike plain_param _ _ (ap parts_of (first_same _ _ _ _ c))) (may_be_alike plain_stmt _ _ (first_same _ _ _ _ (others_same _ _ _ _ c))))

-- ---- functions that have a body

with_body_same : (e f : External) → ExternalAs f e → (names : List (List ℕ)) → with_body f names ≡ with_body e names
with_body_same _ _ (typedef_as _ _ _ _ p q) names = refl
with_body_same _ _ (types_as _ _ p) names = refl
with_body_same _ _ (constants_as _ _ _ _ p q) names = refl
with_body_same _ _ (function_as _ _ _ _ name _ _ _ _ _ p q r both_missing) names = refl
with_body_same _ _ (function_as _ _ _ _ name _ _ _ _ _ p q r (both_given _ _ b)) names = refl

bodies_same : (fs es : List External) → Alike plain_external fs es → (names : List (List ℕ)) → bodies_behind names fs ≡ bodies_behind names es
bodies_same _ _ nothing names = refl
bodies_same _ _ (each f e fs es p ps) names = ap (λ ns. bodies_behind ns fs) (with_body_same e f (external_as e f p) names) ∙ bodies_same fs es ps (with_body e names)

pub body_names_same : (fs es : List External) → Alike plain_external fs es → body_names fs ≡ body_names es
body_names_same fs es p = bodies_same fs es p []

pub given_same : (b a : Option Stmt) → MayBeAlike plain_stmt b a → is_some b ≡ is_some a
given_same _ _ both_missing = refl
given_same _ _ (both_given _ _ p) = refl

pub record BodyAs (f : Stmt) (items : List Stmt) : Type 0 where
  pub all : List Stmt
  pub is : IsBody f all
  pub same : Alike plain_stmt all items

pub body_as : (s : Stmt) (items : List Stmt) → IsBody s items → (f : Stmt) → plain_stmt f ≡ plain_stmt s → BodyAs f items
body_as _ _ (block s place items h0) f p =
    let d = block_as s f p place items h0 in
    record { all = d.all.items; is = block f place d.all d.is; same = d.same }
body_as _ _ (other s no_block) f p =
    record { all = f ∷ []; is = other f (λ place items x. let d = block_as f s (sym p) place items x in no_block place d.all d.is); same = each f s [] [] p nothing }

-- ---- words before a function

abbrev is_size : Head → Bool
is_size (h.required place) = true
is_size _ = false

abbrev is_mark : Head → Bool
is_mark h.kernel = true
is_mark _ = false

size_told : (w : FWord) → requires w ≡ is_size (head_of (plain_word w))
size_told fword.Kernel = refl
size_told fword.Inline = refl
size_told fword.Static = refl
size_told (fword.Required place args) = refl
size_told fword.Hint = refl

mark_told : (w : FWord) → is_kernel_word w ≡ is_mark (head_of (plain_word w))
mark_told fword.Kernel = refl
mark_told fword.Inline = refl
mark_told fword.Static = refl
mark_told (fword.Required place args) = refl
mark_told fword.Hint = refl

pub requires_same : (w v : FWord) → plain_word v ≡ plain_word w → requires v ≡ requires w
requires_same w v p = size_told v ∙ ap (λ t. is_size (head_of t)) p ∙ sym (size_told w)

pub kernel_same : (vs ws : List FWord) → Alike plain_word vs ws → is_kernel vs ≡ is_kernel ws
kernel_same _ _ nothing = refl
kernel_same _ _ (each v w vs ws p ps) = (λ i. (mark_told v ∙ ap (λ t. is_mark (head_of t)) p ∙ sym (mark_told w)) i || kernel_same vs ws ps i)

abbrev SaidWord : Head → Plains → FWord → Type 0
SaidWord (h.required place) ts w = (args : Vec Expr) × (w ≡ fword.Required place args) × (plains (map plain_expr args.items) ≡ ts)
SaidWord _ ts w = Unit {0}

abbrev SaidWordIn : Plain → FWord → Type 0
SaidWordIn (tree h ts) w = SaidWord h ts w

said_word : (w : FWord) → SaidWordIn (plain_word w) w
said_word fword.Kernel = tt
said_word fword.Inline = tt
said_word fword.Static = tt
said_word (fword.Required place args) = (args, refl, refl)
said_word fword.Hint = tt

pub record RequiredAs (v : FWord) (place : Place) (args : List Expr) : Type 0 where
  pub all : Vec Expr
  pub is : v ≡ fword.Required place all
  pub same : Alike plain_expr all.items args

pub required_as : (place : Place) (args : Vec Expr) (v : FWord) → plain_word v ≡ plain_word (fword.Required place args) → RequiredAs v place args.items
required_as place args v p =
    let x = subst (λ t. SaidWordIn t v) p (said_word v) in
    record { all = x.0; is = x.1; same = plains_alike plain_expr _ _ x.2 }

-- ---- parameters

abbrev star_in : Option (List Qual) → Head → Option (List Qual)
star_in s (h.param star name place) = star
star_in s _ = s

abbrev name_in : Option (List ℕ) → Head → Option (List ℕ)
name_in n (h.param star name place) = name
name_in n _ = n

abbrev place_in : Place → Head → Place
place_in p (h.param star name place) = place
place_in p _ = p

-- the parameter with the other's words of a type
abbrev pub with_words : Spec → Param → Param
with_words spec p = record { spec = spec; star = p.star; name = p.name; place = p.place }

pub param_is : (p r : Param) → plain_param r ≡ plain_param p → with_words r.spec p ≡ r
param_is p r same = (λ i. record { spec = r.spec; star = ap (λ t. star_in r.star (head_of t)) (sym same) i; name = ap (λ t. name_in r.name (head_of t)) (sym same) i; place = ap (λ t. place_in r.place (head_of t)) (sym same) i })

pub param_words : (p r : Param) → plain_param r ≡ plain_param p → plain_spec r.spec ≡ plain_spec p.spec
param_words p r same = first_same _ _ _ _ (ap parts_of same)
