-- What the calls of the cycle of expressions make of each other's answers.
use Rattle.std.proofs.Common.{◌≡◌, ℕ, zero, suc, ◌+◌, ◌<◌, ◌≤◌, Bool, true, false, if◌then◌else◌, List, [], ◌∷◌, ◌++◌, length, map, drop, get_or, Option, Some, None, Result, Ok, Err, refl, sym, ap, ◌∙◌, subst, arith, append_assoc, add-one}
use Rattle.std.specs.Prelude.{IfOk, IfErr}
use Rattle.std.proofs.lemmas.List.{append-nil, map-append}
use Rattle.std.proofs.lemmas.List.Elements.{All-push, All-nil}
use Rattle.std.proofs.Math.Seq.{drop-cons}
use Rattle.clv_place.specs.declared.stop.Offence.{Offence}
use Rattle.clv_place.specs.declared.stop.Stop.{Stop}
use Rattle.clv_place.specs.declared.stop.Stop.TheVariants.{Out, NoMemory}
use Rattle.cl_types.specs.declared.types.ClType.{ClType}
use Rattle.cl_types.specs.declared.types.Member.{Member}
use Rattle.cl_types.specs.Table.{IsTable}
use Rattle.cl_builtins.specs.Found.{IsKnown, IsGrown}
use Rattle.cl_builtins.proofs.Growth.{grown_twice}
use Rattle.cl_ast.specs.declared.expression.Qual.{Qual}
use Rattle.cl_ast.specs.declared.expression.Qual.TheVariants as qual
use Rattle.cl_types.specs.declared.space.Space.{Space}
use Rattle.cl_ast.specs.declared.expression.Expr.{Expr}
use Rattle.cl_ast.specs.declared.expression.ExprNode.TheVariants as node
use Rattle.cl_ast.specs.declared.expression.TypeTerm.{TypeTerm}
use Rattle.cl_ast.specs.declared.expression.Spec.{Spec}
use Rattle.cl_ast.specs.declared.expression.Field.{Field}
use Rattle.cl_ast.specs.declared.expression.Declor.{Declor}
use Rattle.cl_ast.specs.declared.expression.Base.TheViews.{out-Expr, out-TypeTerm, out-Spec, out-Field, out-Declor}
use Rattle.cl_tree.specs.declared.expression.TExpr.{TExpr}
use Rattle.cl_tree.specs.Constants.{positive_of}
use Rattle.cl_tree.specs.Shapes.{shape_of}
use Rattle.cl_scope.specs.Names.{Env}
use Rattle.cl_scope.specs.Scopes.{IsKnownEnv}
use Rattle.cl_rules.specs.declared.rule.Operand.{Operand}
use Rattle.cl_rules.specs.declared.rule.Qualified.{Qualified}
use Rattle.cl_words.specs.declared.naming.Length.{Length}
use Rattle.cl_words.specs.declared.naming.Length.TheVariants.{Open, Wrong}
use Rattle.cl_words.specs.Words.{with_space_at, with_qual, qualify, restrict_behind}
use Rattle.cl_make.specs.declared.typed.Typed.{Typed}
use Rattle.cl_make.specs.Ready.{From, Grows, IsReady, AreReady, IsReadyType, tree_of, operand_in}
use Rattle.cl_make.proofs.Growing.{grows_twice, grows_itself}
use Rattle.cl_make.proofs.Stays.{env_stays, all_ready_stay, ready_type_stays}
use Rattle.cl_type_expr.specs.Syntax.{IsSpec, IsField, IsDeclor}
use Rattle.cl_type_expr.specs.Expressions.{first_left, AreTyped, IsTermOf, IsSpecified, AreMembers, AreNamed, AreLengths, no_operand, more_operands, in_brackets, words as the_words, no_field, more_fields, no_name, more_names, no_length, missing, given}
use Rattle.cl_type_expr.specs.Offences.{at, SomeOffends, TermOffends, WordsOffend, SomeMemberOffends, SomeNameOffends, LengthOffends, HoldsNoType, in_operands, in_size, in_cast, in_vector, in_cast_operands, in_vector_operands, in_first, in_rest, in_type_words, in_base, in_field_words, in_field_names, in_other_fields, in_lengths, broken_member, in_other_names, in_length, length_divides, behind_missing, behind_given}
use Rattle.cl_type_expr.specs.Typing.{AreTypedAs, IsTypedAs, OperandsAre, WordsAre, BaseIs, MembersAre, FieldIs, LengthsAre, LengthIs, IsLengthOf, IsPositive, ArePositive, AreReadyMembers, StopsIn, SomeStops, WordsStop, BaseStops, MembersStop, FieldStops, LengthsStop, LengthStops, LengthOfStops, NodeIs, NodeStops, TermNodeIs, TermNodeStops, SizeIs, SizeStops, MemberIsNamed, MemberNameStops}
use Rattle.cl_type_expr.proofs.Nodes.{is_expr, is_node, is_term}

-- ---- lists by their rest

pub dropped : {A : Type 0} (xs : List A) (i : ℕ) (x : A) → i < length xs → x ≡ get_or xs i x → drop i xs ≡ x ∷ drop (i + 1) xs
dropped xs i x low is = drop-cons xs i x low ∙ sym (ap (λ z. z ∷ drop (suc i) xs) is) ∙ ap (λ n. x ∷ drop n xs) (sym (add-one i))

pub dropped_all : {A : Type 0} (xs : List A) (i : ℕ) → length xs ≤ i → drop i xs ≡ []
dropped_all [] zero h = refl
dropped_all [] (suc i) h = refl
dropped_all (x ∷ xs) zero h = absurd (omega arith)
dropped_all (x ∷ xs) (suc i) h = dropped_all xs i (omega arith)

-- ---- a node behind its operands

module _ (first mid new : List ClType) (env after : Env) (left : Bool) (e : Expr) (args : List Expr) (flag : Bool) (rs : List Typed) (a : args ≡ (out-Expr e).args.items) (f : flag ≡ first_left left (out-Expr e).node) (h : Grows mid new) (o : OperandsAre mid env flag args after rs) where
  operands_later : (more : List ClType) → IsGrown new more → AreTypedAs more env (first_left left (out-Expr e).node) (out-Expr e).args.items after rs
  operands_later more m =
      let typed = o.types more (grown_twice mid new more h.grown m) in
      subst (λ z. AreTypedAs more env (first_left left (out-Expr e).node) z after rs) a (subst (λ z. AreTypedAs more env z args after rs) f typed)

  pub node_typed : (r : Result Typed Stop) → IfOk r (NodeIs new after left e rs) → IfOk r (IsTypedAs new env left e after)
  node_typed (Ok t) n = record { types = λ more m. n.types more m env (operands_later more m); ready = n.ready; known = env_stays mid new after h.grown o.known }
  node_typed (Err s) n = tt

  stop_typed : (s : Stop) → NodeStops new after left e rs s → StopsIn new env left e s
  stop_typed NoMemory n = tt
  stop_typed (Out p) n = λ more m. n more m env (operands_later more m)

  pub node_stopped : (r : Result Typed Stop) → IfErr r (NodeStops new after left e rs) → IfErr r (StopsIn new env left e)
  node_stopped (Ok t) n = tt
  node_stopped (Err s) n = stop_typed s n

pub operands_out : (cs : List ClType) (env : Env) (left : Bool) (e : Expr) (args : List Expr) (flag : Bool) (s : Stop) → HoldsNoType (out-Expr e).node → args ≡ (out-Expr e).args.items → flag ≡ first_left left (out-Expr e).node → SomeStops cs env flag args s → StopsIn cs env left e s
operands_out cs env left e args flag NoMemory n a f h = tt
operands_out cs env left e args flag (Out o) n a f h = λ more m.
    in_operands env left e (out-Expr e).place (out-Expr e).node (out-Expr e).args.items o (is_expr e) n
    (subst (λ z. SomeOffends more env (first_left left (out-Expr e).node) z o) a (subst (λ z. SomeOffends more env z args o) f (h more m)))

-- ---- types in brackets

words_term : (cs : List ClType) (env : Env) (term : TypeTerm) (o : Offence) → WordsOffend cs env (out-TypeTerm term).spec o → TermOffends cs env term o
words_term cs env term o h = in_type_words env term (out-TypeTerm term).spec (out-TypeTerm term).star o (is_term term) h

pub size_words_out : (cs : List ClType) (env : Env) (left : Bool) (e : Expr) (term : TypeTerm) (s : Stop) → (out-Expr e).node ≡ node.SizeofType term → WordsStop cs env (out-TypeTerm term).spec s → StopsIn cs env left e s
size_words_out cs env left e term NoMemory is h = tt
size_words_out cs env left e term (Out o) is h = λ more m. in_size env left e (out-Expr e).place term (out-Expr e).args.items o (is_node e (node.SizeofType term) is) (words_term more env term o (h more m))

pub cast_words_out : (cs : List ClType) (env : Env) (left : Bool) (e : Expr) (term : TypeTerm) (s : Stop) → (out-Expr e).node ≡ node.Cast term → WordsStop cs env (out-TypeTerm term).spec s → StopsIn cs env left e s
cast_words_out cs env left e term NoMemory is h = tt
cast_words_out cs env left e term (Out o) is h = λ more m. in_cast env left e (out-Expr e).place term (out-Expr e).args.items o (is_node e (node.Cast term) is) (words_term more env term o (h more m))

pub vector_words_out : (cs : List ClType) (env : Env) (left : Bool) (e : Expr) (term : TypeTerm) (s : Stop) → (out-Expr e).node ≡ node.Vector term → WordsStop cs env (out-TypeTerm term).spec s → StopsIn cs env left e s
vector_words_out cs env left e term NoMemory is h = tt
vector_words_out cs env left e term (Out o) is h = λ more m. in_vector env left e (out-Expr e).place term (out-Expr e).args.items o (is_node e (node.Vector term) is) (words_term more env term o (h more m))

-- the first table is the one behind the words, the second the one behind the operands
module _ (first mid new : List ClType) (env middle after : Env) (left : Bool) (e : Expr) (term : TypeTerm) (q : Qualified) (args : List Expr) (rs : List Typed) (w : WordsAre first env (out-TypeTerm term).spec middle q) (a : args ≡ (out-Expr e).args.items) (g : Grows first mid) (h : Grows mid new) (o : OperandsAre mid middle false args after rs) where
  behind : (more : List ClType) → IsGrown new more → AreTypedAs more middle false (out-Expr e).args.items after rs
  behind more m = subst (λ z. AreTypedAs more middle false z after rs) a (o.types more (grown_twice mid new more h.grown m))

  words_later : (more : List ClType) → IsGrown new more → IsSpecified more env (out-TypeTerm term).spec middle q
  words_later more m = w.words more (grown_twice first new more (grown_twice first mid new g.grown h.grown) m)

  pub term_typed : (r : Result Typed Stop) → IfOk r (TermNodeIs new after left e term q rs) → IfOk r (IsTypedAs new env left e after)
  term_typed (Ok t) n = record { types = λ more m. n.types more m env middle (words_later more m) (behind more m); ready = n.ready; known = env_stays mid new after h.grown o.known }
  term_typed (Err s) n = tt

  term_stop : (s : Stop) → TermNodeStops new after left e term q rs s → StopsIn new env left e s
  term_stop NoMemory n = tt
  term_stop (Out p) n = λ more m. n more m env middle (words_later more m) (behind more m)

  pub term_stopped : (r : Result Typed Stop) → IfErr r (TermNodeStops new after left e term q rs) → IfErr r (StopsIn new env left e)
  term_stopped (Ok t) n = tt
  term_stopped (Err s) n = term_stop s n

module _ (first mid : List ClType) (env middle : Env) (left : Bool) (e : Expr) (term : TypeTerm) (q : Qualified) (args : List Expr) (w : WordsAre first env (out-TypeTerm term).spec middle q) (a : args ≡ (out-Expr e).args.items) (g : Grows first mid) where
  of_term : (more : List ClType) → IsGrown mid more → IsTermOf more env term middle q (restrict_behind (out-TypeTerm term).star)
  of_term more m = in_brackets env middle term (out-TypeTerm term).spec (out-TypeTerm term).star q (is_term term) (w.words more (grown_twice first mid more g.grown m))

  pub cast_operands_out : (s : Stop) → (out-Expr e).node ≡ node.Cast term → SomeStops mid middle false args s → StopsIn mid env left e s
  cast_operands_out NoMemory is h = tt
  cast_operands_out (Out o) is h = λ more m.
      in_cast_operands env middle left e (out-Expr e).place term (out-Expr e).args.items q (restrict_behind (out-TypeTerm term).star) o (is_node e (node.Cast term) is) (of_term more m) (subst (λ z. SomeOffends more middle false z o) a (h more m))

  pub vector_operands_out : (s : Stop) → (out-Expr e).node ≡ node.Vector term → SomeStops mid middle false args s → StopsIn mid env left e s
  vector_operands_out NoMemory is h = tt
  vector_operands_out (Out o) is h = λ more m.
      in_vector_operands env middle left e (out-Expr e).place term (out-Expr e).args.items q (restrict_behind (out-TypeTerm term).star) o (is_node e (node.Vector term) is) (of_term more m) (subst (λ z. SomeOffends more middle false z o) a (h more m))

module _ (first new : List ClType) (env after : Env) (left : Bool) (e : Expr) (term : TypeTerm) (q : Qualified) (g : Grows first new) (w : WordsAre first env (out-TypeTerm term).spec after q) where
  pub size_typed : (r : Result Typed Stop) → IfOk r (SizeIs new after left e term q) → IfOk r (IsTypedAs new env left e after)
  size_typed (Ok t) n = record { types = λ more m. n.types more m env (w.words more (grown_twice first new more g.grown m)); ready = n.ready; known = env_stays first new after g.grown w.known }
  size_typed (Err s) n = tt

  size_stop : (s : Stop) → SizeStops new after left e term q s → StopsIn new env left e s
  size_stop NoMemory n = tt
  size_stop (Out p) n = λ more m. n more m env (w.words more (grown_twice first new more g.grown m))

  pub size_stopped : (r : Result Typed Stop) → IfErr r (SizeStops new after left e term q) → IfErr r (StopsIn new env left e)
  size_stopped (Ok t) n = tt
  size_stopped (Err s) n = size_stop s n

-- ---- operands

-- the operands up to an index, of which what is left makes the whole
pub record OperandsSoFar (first now : List ClType) (env : Env) (left : Bool) (args : List Expr) (i : ℕ) (here : Env) (flag : Bool) (rs : List Typed) : Type 0 where
  pub goes : From now (λ more. (after : Env) (ts : List TExpr) (os : List Operand) → AreTyped more here flag (drop i args) after ts os → AreTyped more env left args after (map tree_of rs ++ ts) (map operand_in rs ++ os))
  pub stops : From now (λ more. (o : Offence) → SomeOffends more here flag (drop i args) o → SomeOffends more env left args o)
  pub ready : AreReady now rs
  pub known : IsKnownEnv now here
  pub grown : Grows first now

pub operands_start : (cs : List ClType) (env : Env) (left : Bool) (args : List Expr) (rs : List Typed) → rs ≡ [] → IsTable cs → IsKnownEnv cs env → OperandsSoFar cs cs env left args 0 env left rs
operands_start cs env left args rs none b k = record {
  goes = λ more m after ts os h. subst (λ z. AreTyped more env left args after (map tree_of z ++ ts) (map operand_in z ++ os)) (sym none) h;
  stops = λ more m o h. h;
  ready = subst (AreReady cs) (sym none) (All-nil (IsReady cs));
  known = k;
  grown = grows_itself cs b;
}

map_push : {B : Type 0} (f : Typed → B) (rs : List Typed) (r : Typed) (ys : List B) → map f (rs ++ r ∷ []) ++ ys ≡ map f rs ++ (f r ∷ ys)
map_push f rs r ys = ap (λ z. z ++ ys) (map-append f rs (r ∷ [])) ∙ append_assoc (map f rs) (f r ∷ []) ys

module _ (first now new : List ClType) (env : Env) (left : Bool) (args : List Expr) (i : ℕ) (here : Env) (flag : Bool) (rs : List Typed) (e : Expr) (h : OperandsSoFar first now env left args i here flag rs) (low : i < length args) (is : e ≡ get_or args i e) (g : Grows now new) where
  operands_rest : drop i args ≡ e ∷ drop (i + 1) args
  operands_rest = dropped args i e low is

  pub operands_next : (after : Env) (r : Typed) (all : List Typed) → all ≡ rs ++ r ∷ [] → IsTypedAs new here flag e after r → OperandsSoFar first new env left args (i + 1) after false all
  operands_next after r all push typed = record {
    goes = λ more m last ts os rest.
        subst (λ z. AreTyped more env left args last (map tree_of z ++ ts) (map operand_in z ++ os)) (sym push)
        (subst (λ z. AreTyped more env left args last z (map operand_in (rs ++ r ∷ []) ++ os)) (sym (map_push tree_of rs r ts))
        (subst (λ z. AreTyped more env left args last (map tree_of rs ++ (r.tree ∷ ts)) z) (sym (map_push operand_in rs r os))
        (h.goes more (grown_twice now new more g.grown m) last (r.tree ∷ ts) (r.operand ∷ os)
        (subst (λ z. AreTyped more here flag z last (r.tree ∷ ts) (r.operand ∷ os)) (sym operands_rest)
        (more_operands here after last flag e (drop (i + 1) args) r.tree ts r.operand os (typed.types more m) rest)))));
    stops = λ more m o rest. h.stops more (grown_twice now new more g.grown m) o
        (subst (λ z. SomeOffends more here flag z o) (sym operands_rest) (in_rest here after flag e (drop (i + 1) args) r.tree r.operand o (typed.types more m) rest));
    ready = subst (AreReady new) (sym push) (All-push (IsReady new) rs r (all_ready_stay now new rs h.grown.table g.grown h.ready) typed.ready);
    known = typed.known;
    grown = grows_twice first now new h.grown g;
  }

  pub operands_stop : (s : Stop) → StopsIn new here flag e s → SomeStops new env left args s
  operands_stop NoMemory stops = tt
  operands_stop (Out o) stops = λ more m. h.stops more (grown_twice now new more g.grown m) o
      (subst (λ z. SomeOffends more here flag z o) (sym operands_rest) (in_first here flag e (drop (i + 1) args) o (stops more m)))

pub operands_end : (first now : List ClType) (env : Env) (left : Bool) (args : List Expr) (i : ℕ) (here : Env) (flag : Bool) (rs : List Typed) → OperandsSoFar first now env left args i here flag rs → length args ≤ i → OperandsAre now env left args here rs
operands_end first now env left args i here flag rs h done = record {
  types = λ more m.
      subst (λ z. AreTyped more env left args here z (map operand_in rs)) (append-nil (map tree_of rs))
      (subst (λ z. AreTyped more env left args here (map tree_of rs ++ []) z) (append-nil (map operand_in rs))
      (h.goes more m here [] [] (subst (λ z. AreTyped more here flag z here [] []) (sym (dropped_all args i done)) (no_operand here flag))));
  ready = h.ready;
  known = h.known;
}

-- ---- the words of types

is_spec : (s : Spec) → IsSpec s (out-Spec s).quals (out-Spec s).base
is_spec s = record { has = refl; is = refl }

spaced_type : (s : Space) (q : Qualified) (o : Option Space) → (with_space_at s q o).ty ≡ q.ty
spaced_type s q None = refl
spaced_type s q (Some own) = refl

spaced_shape : (s : Space) (q : Qualified) (o : Option Space) → (with_space_at s q o).shape ≡ q.shape
spaced_shape s q None = refl
spaced_shape s q (Some own) = refl

qualified_type : (qs : List Qual) (q : Qualified) → (qualify qs q).ty ≡ q.ty
qualified_type [] q = refl
qualified_type (qual.Const ∷ qs) q = qualified_type qs (with_qual qual.Const q)
qualified_type (qual.Volatile ∷ qs) q = qualified_type qs q
qualified_type (qual.Restrict ∷ qs) q = qualified_type qs q
qualified_type (qual.Space s ∷ qs) q = qualified_type qs (with_qual (qual.Space s) q) ∙ spaced_type s q q.space

qualified_shape : (qs : List Qual) (q : Qualified) → (qualify qs q).shape ≡ q.shape
qualified_shape [] q = refl
qualified_shape (qual.Const ∷ qs) q = qualified_shape qs (with_qual qual.Const q)
qualified_shape (qual.Volatile ∷ qs) q = qualified_shape qs q
qualified_shape (qual.Restrict ∷ qs) q = qualified_shape qs q
qualified_shape (qual.Space s ∷ qs) q = qualified_shape qs (with_qual (qual.Space s) q) ∙ spaced_shape s q q.space

pub words_ok : (cs : List ClType) (env after : Env) (s : Spec) (q r : Qualified) → r ≡ qualify (out-Spec s).quals q → BaseIs cs env (out-Spec s).base after q → WordsAre cs env s after r
words_ok cs env after s q r is h =
    let t : r.ty ≡ q.ty = ap (λ z. z.ty) is ∙ qualified_type (out-Spec s).quals q in
    let k : r.shape ≡ q.shape = ap (λ z. z.shape) is ∙ qualified_shape (out-Spec s).quals q in
    record {
      words = λ more m. subst (IsSpecified more env s after) (sym is) (the_words env after s (out-Spec s).quals (out-Spec s).base q (is_spec s) (h.base more m));
      ready = record { known = subst (IsKnown cs) (sym t) h.ready.known; shape = k ∙ h.ready.shape ∙ ap (shape_of cs) (sym t) };
      known = h.known;
    }

pub words_out : (cs : List ClType) (env : Env) (s : Spec) (stop : Stop) → BaseStops cs env (out-Spec s).base stop → WordsStop cs env s stop
words_out cs env s NoMemory h = tt
words_out cs env s (Out o) h = λ more m. in_base env s (out-Spec s).quals (out-Spec s).base o (is_spec s) (h more m)

-- ---- members

pub is_field : (f : Field) → IsField f (out-Field f).spec (out-Field f).names.items
is_field f = record { is = refl; has = refl }

pub record MembersSoFar (first now : List ClType) (env : Env) (fs : List Field) (i : ℕ) (here : Env) (ms : List Member) : Type 0 where
  pub goes : From now (λ more. (after : Env) (all : List Member) → AreMembers more here ms (drop i fs) after all → AreMembers more env [] fs after all)
  pub stops : From now (λ more. (o : Offence) → SomeMemberOffends more here ms (drop i fs) o → SomeMemberOffends more env [] fs o)
  pub ready : AreReadyMembers now ms
  pub known : IsKnownEnv now here
  pub grown : Grows first now

pub members_start : (cs : List ClType) (env : Env) (fs : List Field) (ms : List Member) → ms ≡ [] → IsTable cs → IsKnownEnv cs env → MembersSoFar cs cs env fs 0 env ms
members_start cs env fs ms none b k = record {
  goes = λ more m after all h. subst (λ z. AreMembers more env z fs after all) none h;
  stops = λ more m o h. subst (λ z. SomeMemberOffends more env z fs o) none h;
  ready = subst (AreReadyMembers cs) (sym none) tt;
  known = k;
  grown = grows_itself cs b;
}

module _ (first now new : List ClType) (env : Env) (fs : List Field) (i : ℕ) (here : Env) (ms : List Member) (f : Field) (h : MembersSoFar first now env fs i here ms) (low : i < length fs) (is : f ≡ get_or fs i f) (g : Grows now new) where
  members_rest : drop i fs ≡ f ∷ drop (i + 1) fs
  members_rest = dropped fs i f low is

  pub members_stop : (s : Stop) → FieldStops new here ms f s → MembersStop new env [] fs s
  members_stop NoMemory stops = tt
  members_stop (Out o) stops = λ more m. h.stops more (grown_twice now new more g.grown m) o (subst (λ z. SomeMemberOffends more here ms z o) (sym members_rest) (stops more m (drop (i + 1) fs)))

  pub members_next : (after : Env) (all : List Member) → FieldIs new here ms f after all → MembersSoFar first new env fs (i + 1) after all
  members_next after all field = record {
    goes = λ more m last whole rest. h.goes more (grown_twice now new more g.grown m) last whole
        (subst (λ z. AreMembers more here ms z last whole) (sym members_rest) (field.members more m last (drop (i + 1) fs) whole rest));
    stops = λ more m o rest. h.stops more (grown_twice now new more g.grown m) o
        (subst (λ z. SomeMemberOffends more here ms z o) (sym members_rest) (field.stops more m (drop (i + 1) fs) o rest));
    ready = field.ready;
    known = field.known;
    grown = grows_twice first now new h.grown g;
  }

pub members_end : (first now : List ClType) (env : Env) (fs : List Field) (i : ℕ) (here : Env) (ms : List Member) → MembersSoFar first now env fs i here ms → length fs ≤ i → MembersAre now env [] fs here ms
members_end first now env fs i here ms h done = record {
  members = λ more m. h.goes more m here ms (subst (λ z. AreMembers more here ms z here ms) (sym (dropped_all fs i done)) (no_field here ms));
  ready = h.ready;
  known = h.known;
}

-- ---- members of one type

-- why one of them is none
abbrev pub NamedStop : List ClType → Env → Qualified → List Member → List Declor → Stop → Type 0
NamedStop cs env q before ds (Out o) = From cs (λ more. SomeNameOffends more env q before ds o)
NamedStop cs env q before ds NoMemory = Unit {0}

pub is_declor : (d : Declor) → IsDeclor d (out-Declor d).star (out-Declor d).name (out-Declor d).place (out-Declor d).lengths.items
is_declor d = record { behind = refl; is = refl; at = refl; has = refl }

pub record NamedSoFar (first now : List ClType) (env : Env) (q : Qualified) (before : List Member) (ds : List Declor) (i : ℕ) (here : Env) (ms : List Member) : Type 0 where
  pub goes : From now (λ more. (after : Env) (all : List Member) → AreNamed more here q ms (drop i ds) after all → AreNamed more env q before ds after all)
  pub stops : From now (λ more. (o : Offence) → SomeNameOffends more here q ms (drop i ds) o → SomeNameOffends more env q before ds o)
  pub ready : AreReadyMembers now ms
  pub type_ready : IsReadyType now q
  pub known : IsKnownEnv now here
  pub grown : Grows first now

pub named_start : (cs : List ClType) (env : Env) (q : Qualified) (before : List Member) (ds : List Declor) → IsTable cs → IsKnownEnv cs env → IsReadyType cs q → AreReadyMembers cs before → NamedSoFar cs cs env q before ds 0 env before
named_start cs env q before ds b k t r = record {
  goes = λ more m after all h. h;
  stops = λ more m o h. h;
  ready = r;
  type_ready = t;
  known = k;
  grown = grows_itself cs b;
}

module _ (first now mid : List ClType) (env : Env) (q : Qualified) (before : List Member) (ds : List Declor) (i : ℕ) (here : Env) (ms : List Member) (d : Declor) (written : List (Option Expr)) (h : NamedSoFar first now env q before ds i here ms) (low : i < length ds) (is : d ≡ get_or ds i d) (same : written ≡ (out-Declor d).lengths.items) (g : Grows now mid) where
  named_rest : drop i ds ≡ d ∷ drop (i + 1) ds
  named_rest = dropped ds i d low is

  pub name_lengths_stop : (s : Stop) → LengthsStop mid here false written s → NamedStop mid env q before ds s
  name_lengths_stop NoMemory stops = tt
  name_lengths_stop (Out o) stops = λ more m. h.stops more (grown_twice now mid more g.grown m) o
      (subst (λ z. SomeNameOffends more here q ms z o) (sym named_rest)
      (in_lengths here q ms d (drop (i + 1) ds) (out-Declor d).star (out-Declor d).name (out-Declor d).place (out-Declor d).lengths.items o (is_declor d) (subst (λ z. LengthOffends more here false z o) same (stops more m))))

  module _ (new : List ClType) (measured : Env) (ls : List Length) (l : LengthsAre mid here false written measured ls) (u : Grows mid new) where
    name_since : (more : List ClType) → IsGrown new more → IsGrown now more
    name_since more m = grown_twice now new more (grown_twice now mid new g.grown u.grown) m

    name_lengths : (more : List ClType) → IsGrown new more → AreLengths more here false (out-Declor d).lengths.items measured ls
    name_lengths more m = subst (λ z. AreLengths more here false z measured ls) same (l.lengths more (grown_twice mid new more u.grown m))

    pub name_stop : (s : Stop) → MemberNameStops new q (out-Declor d).star ls (out-Declor d).name (out-Declor d).place ms s → NamedStop new env q before ds s
    name_stop NoMemory stops = tt
    name_stop (Out o) stops = λ more m. h.stops more (name_since more m) o
        (subst (λ z. SomeNameOffends more here q ms z o) (sym named_rest)
        (subst (λ p. SomeNameOffends more here q ms (d ∷ drop (i + 1) ds) (at o.code p)) (sym stops.0)
        (broken_member here measured q ms d (drop (i + 1) ds) (out-Declor d).star (out-Declor d).name (out-Declor d).place (out-Declor d).lengths.items ls o.code (is_declor d) (name_lengths more m) (stops.1 more m))))

    pub named_next : (all : List Member) → MemberIsNamed new q (out-Declor d).star ls (out-Declor d).name ms all → NamedSoFar first new env q before ds (i + 1) measured all
    named_next all named = record {
      goes = λ more m last whole rest. h.goes more (name_since more m) last whole
          (subst (λ z. AreNamed more here q ms z last whole) (sym named_rest)
          (more_names here measured last q ms whole d (drop (i + 1) ds) (out-Declor d).star (out-Declor d).name (out-Declor d).place (out-Declor d).lengths.items ls named.ty (is_declor d) (name_lengths more m) (named.fits more m) (named.is more m)
          (subst (λ z. AreNamed more measured q z (drop (i + 1) ds) last whole) named.behind rest)));
      stops = λ more m o rest. h.stops more (name_since more m) o
          (subst (λ z. SomeNameOffends more here q ms z o) (sym named_rest)
          (in_other_names here measured q ms d (drop (i + 1) ds) (out-Declor d).star (out-Declor d).name (out-Declor d).place (out-Declor d).lengths.items ls named.ty o (is_declor d) (name_lengths more m) (named.fits more m) (named.is more m)
          (subst (λ z. SomeNameOffends more measured q z (drop (i + 1) ds) o) named.behind rest)));
      ready = named.ready;
      type_ready = ready_type_stays now new q h.grown.table (grown_twice now mid new g.grown u.grown) h.type_ready;
      known = env_stays mid new measured u.grown l.known;
      grown = grows_twice first now new h.grown (grows_twice now mid new g u);
    }

pub field_words_stop : (cs : List ClType) (env : Env) (before : List Member) (f : Field) (s : Stop) → WordsStop cs env (out-Field f).spec s → FieldStops cs env before f s
field_words_stop cs env before f NoMemory stops = tt
field_words_stop cs env before f (Out o) stops = λ more m fs. in_field_words env before f fs (out-Field f).spec (out-Field f).names.items o (is_field f) (stops more m)

-- the first table is the one behind the words
module _ (first now : List ClType) (env typed : Env) (f : Field) (before : List Member) (q : Qualified) (ds : List Declor) (same : ds ≡ (out-Field f).names.items) (w : WordsAre first env (out-Field f).spec typed q) where
  pub field_names_stop : (s : Stop) → Grows first now → NamedStop now typed q before ds s → FieldStops now env before f s
  field_names_stop NoMemory g stops = tt
  field_names_stop (Out o) g stops = λ more m fs.
      in_field_names env typed before f fs (out-Field f).spec (out-Field f).names.items q o (is_field f) (w.words more (grown_twice first now more g.grown m)) (subst (λ z. SomeNameOffends more typed q before z o) same (stops more m))

  module _ (i : ℕ) (here : Env) (ms : List Member) (h : NamedSoFar first now typed q before ds i here ms) (done : length ds ≤ i) where
    all_named : (more : List ClType) → IsGrown now more → AreNamed more typed q before (out-Field f).names.items here ms
    all_named more m = subst (λ z. AreNamed more typed q before z here ms) same (h.goes more m here ms (subst (λ z. AreNamed more here q ms z here ms) (sym (dropped_all ds i done)) (no_name here q ms)))

    pub field_is : FieldIs now env before f here ms
    field_is = record {
      members = λ more m last fs whole rest.
          more_fields env typed here last before ms whole f fs (out-Field f).spec (out-Field f).names.items q (is_field f) (w.words more (grown_twice first now more h.grown.grown m)) (all_named more m) rest;
      stops = λ more m fs o rest.
          in_other_fields env typed here before ms f fs (out-Field f).spec (out-Field f).names.items q o (is_field f) (w.words more (grown_twice first now more h.grown.grown m)) (all_named more m) rest;
      ready = h.ready;
      known = h.known;
    }

-- ---- lengths

pub record LengthsSoFar (first now : List ClType) (env : Env) (may_miss : Bool) (es : List (Option Expr)) (i : ℕ) (here : Env) (may : Bool) (ls : List Length) : Type 0 where
  pub goes : From now (λ more. (after : Env) (rest : List Length) → AreLengths more here may (drop i es) after rest → AreLengths more env may_miss es after (ls ++ rest))
  pub stops : From now (λ more. (o : Offence) → LengthOffends more here may (drop i es) o → LengthOffends more env may_miss es o)
  pub positive : ArePositive ls
  pub known : IsKnownEnv now here
  pub grown : Grows first now

pub lengths_start : (cs : List ClType) (env : Env) (may_miss : Bool) (es : List (Option Expr)) (ls : List Length) → ls ≡ [] → IsTable cs → IsKnownEnv cs env → LengthsSoFar cs cs env may_miss es 0 env may_miss ls
lengths_start cs env may_miss es ls none b k = record {
  goes = λ more m after rest h. subst (λ z. AreLengths more env may_miss es after (z ++ rest)) (sym none) h;
  stops = λ more m o h. h;
  positive = subst ArePositive (sym none) tt;
  known = k;
  grown = grows_itself cs b;
}

positive_push : (ls : List Length) (l : Length) → ArePositive ls → IsPositive l → ArePositive (ls ++ l ∷ [])
positive_push [] l h k = (k, tt)
positive_push (x ∷ ls) l h k = (h.0, positive_push ls l h.1 k)

module _ (first now new : List ClType) (env : Env) (may_miss : Bool) (es : List (Option Expr)) (i : ℕ) (here : Env) (may : Bool) (ls : List Length) (h : LengthsSoFar first now env may_miss es i here may ls) (low : i < length es) (g : Grows now new) where
  lengths_rest : drop i es ≡ get_or es i None ∷ drop (i + 1) es
  lengths_rest = drop-cons es i None low ∙ ap (λ n. get_or es i None ∷ drop n es) (sym (add-one i))

  pub lengths_next : (after : Env) (l : Length) (all : List Length) → all ≡ ls ++ l ∷ [] → LengthIs new here may (get_or es i None) after l → LengthsSoFar first new env may_miss es (i + 1) after false all
  lengths_next after l all push length = record {
    goes = λ more m last rest t.
        subst (AreLengths more env may_miss es last) (sym (append_assoc ls (l ∷ []) rest) ∙ ap (λ z. z ++ rest) (sym push))
        (h.goes more (grown_twice now new more g.grown m) last (l ∷ rest) (subst (λ z. AreLengths more here may z last (l ∷ rest)) (sym lengths_rest) (length.lengths more m last (drop (i + 1) es) rest t)));
    stops = λ more m o t. h.stops more (grown_twice now new more g.grown m) o (subst (λ z. LengthOffends more here may z o) (sym lengths_rest) (length.stops more m (drop (i + 1) es) o t));
    positive = subst ArePositive (sym push) (positive_push ls l h.positive length.positive);
    known = length.known;
    grown = grows_twice first now new h.grown g;
  }

  pub lengths_stop : (s : Stop) → LengthStops new here may (get_or es i None) s → LengthsStop new env may_miss es s
  lengths_stop NoMemory stops = tt
  lengths_stop (Out o) stops = λ more m. h.stops more (grown_twice now new more g.grown m) o (subst (λ z. LengthOffends more here may z o) (sym lengths_rest) (stops more m (drop (i + 1) es)))

pub lengths_end : (first now : List ClType) (env : Env) (may_miss : Bool) (es : List (Option Expr)) (i : ℕ) (here : Env) (may : Bool) (ls : List Length) → LengthsSoFar first now env may_miss es i here may ls → length es ≤ i → LengthsAre now env may_miss es here ls
lengths_end first now env may_miss es i here may ls h done = record {
  lengths = λ more m. subst (AreLengths more env may_miss es here) (append-nil ls) (h.goes more m here [] (subst (λ z. AreLengths more here may z here []) (sym (dropped_all es i done)) (no_length here may)));
  positive = h.positive;
  known = h.known;
}

-- ---- a length

missing_positive : (may : Bool) → IsPositive (if may then Open else Wrong)
missing_positive true = tt
missing_positive false = tt

pub length_missing : (cs : List ClType) (env : Env) (may : Bool) (one : Option Expr) (l : Length) → IsKnownEnv cs env → one ≡ None → l ≡ (if may then Open else Wrong) → LengthIs cs env may one env l
length_missing cs env may one l k none is = record {
  lengths = λ more m last es ls t. subst (λ z. AreLengths more env may (z ∷ es) last (l ∷ ls)) (sym none) (subst (λ z. AreLengths more env may (None ∷ es) last (z ∷ ls)) (sym is) (missing env last may es ls t));
  stops = λ more m es o t. subst (λ z. LengthOffends more env may (z ∷ es) o) (sym none) (behind_missing env may es o t);
  positive = subst IsPositive (sym is) (missing_positive may);
  known = k;
}

pub length_given : (cs : List ClType) (env after : Env) (may : Bool) (one : Option Expr) (e : Expr) (r : Typed) (l : Length) → one ≡ Some e → IsTypedAs cs env false e after r → IsLengthOf cs r.tree l → LengthIs cs env may one after l
length_given cs env after may one e r l some typed is = record {
  lengths = λ more m last es ls t. subst (λ z. AreLengths more env may (z ∷ es) last (l ∷ ls)) (sym some) (subst (λ z. AreLengths more env may (Some e ∷ es) last (z ∷ ls)) (sym (is.is more m))
      (given env after last may e es r.tree r.operand (positive_of more r.tree) ls (typed.types more m) (is.whole more m) refl t));
  stops = λ more m es o t. subst (λ z. LengthOffends more env may (z ∷ es) o) (sym some) (behind_given env after may e es r.tree r.operand o (typed.types more m) (is.whole more m) t);
  positive = is.positive;
  known = typed.known;
}

pub length_expr_out : (cs : List ClType) (env : Env) (may : Bool) (one : Option Expr) (e : Expr) (s : Stop) → one ≡ Some e → StopsIn cs env false e s → LengthStops cs env may one s
length_expr_out cs env may one e NoMemory some h = tt
length_expr_out cs env may one e (Out o) some h = λ more m es. subst (λ z. LengthOffends more env may (z ∷ es) o) (sym some) (in_length env may e es o (h more m))

pub length_out : (cs : List ClType) (env after : Env) (may : Bool) (one : Option Expr) (e : Expr) (r : Typed) (s : Stop) → one ≡ Some e → IsTypedAs cs env false e after r → LengthOfStops cs r.tree s → LengthStops cs env may one s
length_out cs env after may one e r NoMemory some typed h = tt
length_out cs env after may one e r (Out o) some typed h = λ more m es. subst (λ z. LengthOffends more env may (z ∷ es) o) (sym some)
    (subst (λ c. LengthOffends more env may (Some e ∷ es) (at c o.place)) (sym h.0) (length_divides env after may e es r.tree r.operand o.place (typed.types more m) (h.1 more m)))
