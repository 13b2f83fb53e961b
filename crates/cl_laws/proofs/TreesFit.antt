-- The typed tree of an expression is typed by its operands, in lists that agree with the declarations round it; and they agree with those behind it.
use Rattle.std.proofs.Common.{◌≡◌, ℕ, ◌<◌, List, [], ◌∷◌, ◌++◌, map, refl, sym, ap, ◌∙◌, subst, Bool, true, false, ◌&&◌, cond, if◌then◌else◌, Some, None, Option, slice_get, true≢false, ltb-true}
use Rattle.std.specs.Prelude.{length, is_some, nat_eq, nat_lt, not, bytes_eq}
use Rattle.std.specs.List.{All}
use Rattle.cl_types.specs.declared.types.ClType.{ClType}
use Rattle.cl_types.specs.declared.types.Member.{Member}
use Rattle.cl_types.specs.declared.types.TypeId.{TypeId}
use Rattle.cl_types.specs.declared.operator.UnOp.TheVariants as un
use Rattle.cl_types.specs.declared.space.Space.{Space}
use Rattle.cl_types.specs.Table.{IsTable}
use Rattle.cl_builtins.proofs.Growth.{at_known}
use Rattle.cl_ast.specs.declared.expression.Base.{Base}
use Rattle.cl_ast.specs.declared.expression.Declor.{Declor}
use Rattle.cl_ast.specs.declared.expression.Expr.{Expr}
use Rattle.cl_ast.specs.declared.expression.ExprNode.{ExprNode}
use Rattle.cl_ast.specs.declared.expression.ExprNode.TheVariants as node
use Rattle.cl_ast.specs.declared.expression.Field.{Field}
use Rattle.cl_ast.specs.declared.expression.Qual.{Qual}
use Rattle.cl_ast.specs.declared.expression.Qual.TheVariants as qual
use Rattle.cl_ast.specs.declared.expression.Spec.{Spec}
use Rattle.cl_ast.specs.declared.expression.TypeTerm.{TypeTerm}
use Rattle.cl_tree.specs.declared.expression.TExpr.{TExpr}
use Rattle.cl_tree.specs.Facts.{Lists}
use Rattle.cl_tree.specs.Shapes.{members_of}
use Rattle.cl_tree.specs.Units.{are_allowed}
use Rattle.cl_rules.specs.declared.rule.Head.TheVariants as head
use Rattle.cl_rules.specs.declared.rule.Judged.{Judged}
use Rattle.cl_rules.specs.declared.rule.Judged.TheVariants.{Broken, Makes}
use Rattle.cl_rules.specs.declared.rule.Made.{Made}
use Rattle.cl_rules.specs.declared.rule.Operand.{Operand}
use Rattle.cl_rules.specs.declared.rule.Qualified.{Qualified}
use Rattle.cl_rules.specs.declared.rule.Want.TheVariants as want
use Rattle.cl_rules.specs.Calls.{some_no_value, some_no_pointer, wants_of, call_of}
use Rattle.cl_rules.specs.Operands.{first_broken, unless_at, unless, value, type_of}
use Rattle.cl_rules.specs.Operators.{binary, assignment}
use Rattle.cl_rules.specs.Parts.{chosen, member}
use Rattle.cl_scope.specs.declared.scope.Declared.{Declared}
use Rattle.cl_scope.specs.declared.scope.Signature.{Signature}
use Rattle.cl_scope.specs.Names.{Env, newest, find, find_function}
use Rattle.cl_words.specs.declared.naming.Length.{Length}
use Rattle.cl_words.specs.Words.{with_space_at, with_qual, qualify}
use Rattle.cl_make.proofs.Growing.{none_some, some_same}
use Rattle.cl_make.specs.Ready.{IsReadyOperand, IsReadyType}
use Rattle.cl_make.specs.Wanted.{target}
use Rattle.cl_type_expr.specs.Expressions.{tag, tagged, component_in, AreArguments, Types, AreTyped, IsTermOf, IsSpecified, IsBase, AreMembers, AreNamed, AreLengths, none as no_argument, more as more_arguments, arrow, built_in, cast, component_at, given, in_brackets, literal_number, missing, more_fields, more_names, more_operands, name, named, no_field, no_length, no_name, no_operand, operation, size_of_type, size_of_value, struct_members, struct_tag, vector_literal, word, words}
use Rattle.cl_type_expr.specs.Judging.{call_at, call, judge}
use Rattle.cl_laws.specs.Agreement.{callee_of, Agrees, IsTypedAs, AreTypedAs}
use Rattle.cl_laws.specs.Fitting.{RuleFits}
use Rattle.cl_laws.proofs.BuiltinsFit.{StandFor, built_in_fits}
use Rattle.cl_laws.proofs.CallsFit.{call_fits, cast_fits, literal_fits}
use Rattle.cl_laws.proofs.Fitted.{test_kept, tests_kept}
use Rattle.cl_laws.proofs.NodesFit.{made_typed, number_typed, number_scalar, name_typed, all_ready}
use Rattle.cl_laws.proofs.Opening.{facts_of as facts_in}
use Rattle.cl_laws.proofs.OperatorsFit.{unary_fits, binary_fits, assignment_fits}
use Rattle.cl_laws.proofs.PartsFit.{chosen_fits, indexed_fits, comma_fits, member_fits, component_fits}
use Rattle.cl_laws.proofs.SameTypes.{known_wanted}

-- ---- declarations

and_false : (a : Bool) → (a && false) ≡ false
and_false true = refl
and_false false = refl

-- a tag hides no name
past_tag : (n : List ℕ) (t : TypeId) (complete : Bool) (ds : List Declared) (text : List ℕ) → newest false text (tag n t complete ∷ ds) ≡ newest false text ds
past_tag n t complete ds text = ap (λ z. cond z (Some (tag n t complete)) (newest false text ds)) (and_false (bytes_eq text n))

pub tagged_agrees : (l : Lists) (n : Option (List ℕ)) (t : TypeId) (complete : Bool) (env : Env) → Agrees l env → Agrees l (tagged n t complete env)
tagged_agrees l None t complete env a = a
tagged_agrees l (Some n) t complete env a = record {
  names = λ text d e. a.names text d (sym (past_tag n t complete (env.inner ++ env.outer) text) ∙ e);
  functions = a.functions;
}

-- ---- words of types

ready_spaced : (cs : List ClType) (s : Space) (q : Qualified) (o : Option Space) → IsReadyType cs q → IsReadyType cs (with_space_at s q o)
ready_spaced cs s q None h = record { known = h.known; shape = h.shape }
ready_spaced cs s q (Some own) h = record { known = h.known; shape = h.shape }

ready_qualified : (cs : List ClType) (qs : List Qual) (q : Qualified) → IsReadyType cs q → IsReadyType cs (qualify qs q)
ready_qualified cs [] q h = h
ready_qualified cs (qual.Const ∷ qs) q h = ready_qualified cs qs (with_qual qual.Const q) (record { known = h.known; shape = h.shape })
ready_qualified cs (qual.Volatile ∷ qs) q h = ready_qualified cs qs q h
ready_qualified cs (qual.Restrict ∷ qs) q h = ready_qualified cs qs q h
ready_qualified cs (qual.Space s ∷ qs) q h = ready_qualified cs qs (with_qual (qual.Space s) q) (ready_spaced cs s q q.space h)

-- ---- the rule of a node

odd_makes : {A : Type 0} (m : Made) → Some (Broken 308) ≡ Some (Makes m) → A
odd_makes m e = cc

hidden_makes : {A : Type 0} (m : Made) → Some (Broken 314) ≡ Some (Makes m) → A
hidden_makes m e = cc

nothing_makes : {A : Type 0} (m : Made) → None ≡ Some (Makes m) → A
nothing_makes m e = cc

judged_same : (j : Judged) (m : Made) → Some j ≡ Some (Makes m) → j ≡ Makes m
judged_same j m e = cc

component_low : (n : ℕ) (o : Option ℕ) (k : ℕ) → component_in n o ≡ Some k → k < n
component_low n None k e = absurd (none_some e)
component_low n (Some j) k e = by (nat_lt j n) refl e
  where
    by : (a : Bool) → nat_lt j n ≡ a → cond a (Some j) None ≡ Some k → k < n
    by true h e = subst (λ z. z < n) (some_same j k e) (ltb-true j n h)
    by false h e = absurd (none_some e)

-- the types of arguments, as the rule for built-in functions says them
stand_for : (cs : List ClType) (os : List Operand) (ts : List TypeId) → AreArguments cs os ts → StandFor cs os ts
stand_for cs _ _ no_argument = tt
stand_for cs _ _ (more_arguments o os t ts w r) = (w, stand_for cs os ts r)

-- no call is made of a function without a body
made_of_tests : (tests : List (ℕ × Bool)) (made m : Made) → unless tests made ≡ Makes m → first_broken tests ≡ None
made_of_tests tests made m e = by (first_broken tests) e
  where
    by : (o : Option ℕ) → unless_at o made ≡ Makes m → o ≡ None
    by None e = refl
    by (Some code) e = cc

not_false : (a : Bool) → not a ≡ false → a ≡ true
not_false true e = refl
not_false false e = absurd (true≢false e)

called_body : (cs : List ClType) (os : List Operand) (f : Signature) (m : Made) → call_of os (map (target cs) f.params) f ≡ Makes m → f.body ≡ true
called_body cs os f m e =
    let ts = map (target cs) f.params in
    let pointers : List (ℕ × Bool) = (333, some_no_pointer os ts) ∷ [] in
    let bodies : List (ℕ × Bool) = (317, not f.body) ∷ pointers in
    let kernels : List (ℕ × Bool) = (316, f.kernel) ∷ bodies in
    let lengths : List (ℕ × Bool) = (315, not (nat_eq (length os) (length ts))) ∷ kernels in
    let h = made_of_tests ((311, some_no_value os ts) ∷ lengths) (value (wants_of f.params) (head.Call f.number) (want.Type f.result)) m e in
    not_false f.body (test_kept (317, not f.body) pointers (tests_kept (316, f.kernel) bodies (tests_kept (315, not (nat_eq (length os) (length ts))) kernels (tests_kept (311, some_no_value os ts) lengths h))))

module _ (l : Lists) (b : IsTable l.types) (allowed : are_allowed l.types l.types ≡ true) where
  call_at_fits : (os : List Operand) (o : Option Signature) (m : Made) → All (IsReadyOperand l.types) os → ((f : Signature) → o ≡ Some f → f.body ≡ true → slice_get l.functions f.number ≡ Some (callee_of f)) → call_at l.types os o ≡ Some (Makes m) → RuleFits l m (map facts_in os)
  call_at_fits os None m r a e = nothing_makes m e
  call_at_fits os (Some f) m r a e =
      let made = judged_same (call_of os (map (target l.types) f.params) f) m e in
      call_fits l os f m r (a f refl (called_body l.types os f m made)) made

  function_fits : (env : Env) (text : List ℕ) (os : List Operand) (m : Made) → Agrees l env → All (IsReadyOperand l.types) os → call l.types env text os ≡ Some (Makes m) → RuleFits l m (map facts_in os)
  function_fits env text os m a r e = by (is_some (find env text)) e
    where
      by : (z : Bool) → (if z then Some (Broken 314) else call_at l.types os (find_function env text)) ≡ Some (Makes m) → RuleFits l m (map facts_in os)
      by true e = hidden_makes m e
      by false e = call_at_fits os (find_function env text) m r (λ f g. a.functions text f g) e

  member_rule_fits : (left : Bool) (text : List ℕ) (pointed : Bool) (o : Operand) (m : Made) → IsReadyOperand l.types o → (if pointed then None else Some (member left (members_of l.types o.facts.ty) text o)) ≡ Some (Makes m) → RuleFits l m (o.facts ∷ [])
  member_rule_fits left text true o m r e = nothing_makes m e
  member_rule_fits left text false o m r e = member_fits l b left text o m r (judged_same (member left (members_of l.types o.facts.ty) text o) m e)

  first_ready : (ts : List TExpr) (o : Operand) (os : List Operand) → AreTypedAs l ts (o ∷ os) → IsReadyOperand l.types o
  first_ready [] o os a = absurd a
  first_ready (t ∷ ts) o os a = a.0.ready

  second_ready : (ts : List TExpr) (o p : Operand) (os : List Operand) → AreTypedAs l ts (o ∷ p ∷ os) → IsReadyOperand l.types p
  second_ready [] o p os a = absurd a
  second_ready (t ∷ ts) o p os a = first_ready ts p os a.1

  third_ready : (ts : List TExpr) (o p q : Operand) (os : List Operand) → AreTypedAs l ts (o ∷ p ∷ q ∷ os) → IsReadyOperand l.types q
  third_ready [] o p q os a = absurd a
  third_ready (t ∷ ts) o p q os a = second_ready ts p q os a.1

  -- what the rule of a node makes of typed operands
  judged_fits : (env : Env) (left : Bool) (n : ExprNode) (ts : List TExpr) (os : List Operand) (m : Made) → Agrees l env → AreTypedAs l ts os → judge l.types env left n os ≡ Some (Makes m) → RuleFits l m (map facts_in os)
  judged_fits env left (node.Unary op) ts [] m a r e = odd_makes m e
  judged_fits env left (node.Unary op) ts (o ∷ []) m a r e = unary_fits l b op o m (first_ready ts o [] r) e
  judged_fits env left (node.Unary op) ts (o ∷ p ∷ os) m a r e = odd_makes m e
  judged_fits env left (node.Binary op) ts [] m a r e = odd_makes m e
  judged_fits env left (node.Binary op) ts (o ∷ []) m a r e = odd_makes m e
  judged_fits env left (node.Binary op) ts (o ∷ p ∷ []) m a r e = binary_fits l b allowed op o p m (first_ready ts o (p ∷ []) r) (second_ready ts o p [] r) (judged_same (binary op o p) m e)
  judged_fits env left (node.Binary op) ts (o ∷ p ∷ q ∷ os) m a r e = odd_makes m e
  judged_fits env left (node.Assign op) ts [] m a r e = odd_makes m e
  judged_fits env left (node.Assign op) ts (o ∷ []) m a r e = odd_makes m e
  judged_fits env left (node.Assign op) ts (o ∷ p ∷ []) m a r e = assignment_fits l b op o p m (first_ready ts o (p ∷ []) r) (second_ready ts o p [] r) (judged_same (assignment op o p) m e)
  judged_fits env left (node.Assign op) ts (o ∷ p ∷ q ∷ os) m a r e = odd_makes m e
  judged_fits env left node.Cond ts [] m a r e = odd_makes m e
  judged_fits env left node.Cond ts (o ∷ []) m a r e = odd_makes m e
  judged_fits env left node.Cond ts (o ∷ p ∷ []) m a r e = odd_makes m e
  judged_fits env left node.Cond ts (o ∷ p ∷ q ∷ []) m a r e =
      chosen_fits l b o p q m (first_ready ts o (p ∷ q ∷ []) r) (second_ready ts o p (q ∷ []) r) (third_ready ts o p q [] r) (judged_same (chosen o p q) m e)
  judged_fits env left node.Cond ts (o ∷ p ∷ q ∷ x ∷ os) m a r e = odd_makes m e
  judged_fits env left node.Index ts [] m a r e = odd_makes m e
  judged_fits env left node.Index ts (o ∷ []) m a r e = odd_makes m e
  judged_fits env left node.Index ts (o ∷ p ∷ []) m a r e = indexed_fits l b o p m (first_ready ts o (p ∷ []) r) (second_ready ts o p [] r) e
  judged_fits env left node.Index ts (o ∷ p ∷ q ∷ os) m a r e = odd_makes m e
  judged_fits env left (node.Member text pointed) ts [] m a r e = odd_makes m e
  judged_fits env left (node.Member text pointed) ts (o ∷ []) m a r e = member_rule_fits left text pointed o m (first_ready ts o [] r) e
  judged_fits env left (node.Member text pointed) ts (o ∷ p ∷ os) m a r e = odd_makes m e
  judged_fits env left node.Comma ts [] m a r e = odd_makes m e
  judged_fits env left node.Comma ts (o ∷ os) m a r e = comma_fits l b (o ∷ os) m (all_ready l ts (o ∷ os) r) e
  judged_fits env left (node.Call text) ts os m a r e = function_fits env text os m a (all_ready l ts os r) e
  judged_fits env left _ ts os m a r e = nothing_makes m e

-- ---- expressions

module _ (l : Lists) (b : IsTable l.types) (allowed : are_allowed l.types l.types ≡ true) where
  mutual
    pub types_fit : (i0 : Env) (i1 : Bool) (i2 : Expr) (i3 : Env) (i4 : TExpr) (i5 : Operand) → Types l.types i0 i1 i2 i3 i4 i5 → Agrees l i0 → Agrees l i3 × IsTypedAs l i4 i5
    types_fit _ _ _ _ _ _ (name env after left e place text args ts os d h t h0 h1 h2 h3 h4 h5) a =
        let r = are_typed_fit _ _ _ _ _ _ h1 a in
        (r.0, name_typed l d h place t (r.0.names text d h2) h3 h4 h5)
    types_fit _ _ _ _ _ _ (literal_number env after left e place n ty args ts os t o h0 h1 h2) a =
        let r = are_typed_fit _ _ _ _ _ _ h1 a in
        (r.0, number_typed l _ n place t o (number_scalar ty) h2)
    types_fit _ _ _ _ _ _ (operation env after left e place n args ts os m t o h0 h1 h2 h3) a =
        let r = are_typed_fit _ _ _ _ _ _ h1 a in
        (r.0, made_typed l m place ts os t o r.1 (judged_fits l b allowed after left n ts os m r.0 r.1 h2) h3)
    types_fit _ _ _ _ _ _ (arrow env after left e place text args t u v o p q m k h0 h1 h2 h3 h4 h5) a =
        let r = are_typed_fit _ _ _ _ _ _ h1 a in
        let at : IsTypedAs l u p = made_typed l m place (t ∷ []) (o ∷ []) u p r.1 (unary_fits l b un.Deref o m r.1.0.ready (ap Some h2)) h3 in
        (r.0, made_typed l k place (u ∷ []) (p ∷ []) v q (at, tt) (member_fits l b left text p k at.ready h4) h5)
    types_fit _ _ _ _ _ _ (component_at env after left e place args t i u o p q k h0 h1 h2 h3 h4) a =
        let r = are_typed_fit _ _ _ _ _ _ h1 a in
        (r.0, made_typed l _ place (t ∷ []) (o ∷ []) u q (r.1.0, tt) (component_fits l b k o r.1.0.ready h2 (component_low (type_of o.shape).count _ k h3)) h4)
    types_fit _ _ _ _ _ _ (size_of_value env after left e place args t u o p h0 h1 h2 h3) a =
        let r = are_typed_fit _ _ _ _ _ _ h1 a in
        (r.0, number_typed l _ _ place u p refl h3)
    types_fit _ _ _ _ _ _ (size_of_type env after left e place term args q star t o h0 h1 h2 h3) a =
        let r = is_term_fit _ _ _ _ _ h1 a in
        (r.0, number_typed l _ _ place t o refl h3)
    types_fit _ _ _ _ _ _ (cast env middle after left e place term args q star ts os m t o h0 h1 h2 h3 h4) a =
        let w = is_term_fit _ _ _ _ _ h1 a in
        let r = are_typed_fit _ _ _ _ _ _ h2 w.0 in
        (r.0, made_typed l m place ts os t o r.1 (cast_fits l q star os m w.1 (all_ready l ts os r.1) h3) h4)
    types_fit _ _ _ _ _ _ (vector_literal env middle after left e place term args q star ts os m t o h0 h1 h2 h3 h4) a =
        let w = is_term_fit _ _ _ _ _ h1 a in
        let r = are_typed_fit _ _ _ _ _ _ h2 w.0 in
        (r.0, made_typed l m place ts os t o r.1 (literal_fits l q star os m w.1 (all_ready l ts os r.1) h3) h4)
    types_fit _ _ _ _ _ _ (built_in env after left e place text args ts os tys found t o h0 h1 h2 h3 h4 h5 h6) a =
        let r = are_typed_fit _ _ _ _ _ _ h1 a in
        (r.0, made_typed l _ place ts os t o r.1 (built_in_fits l text os tys found b (all_ready l ts os r.1) (stand_for l.types os tys h3) h4) h6)

    pub are_typed_fit : (i0 : Env) (i1 : Bool) (i2 : List Expr) (i3 : Env) (i4 : List TExpr) (i5 : List Operand) → AreTyped l.types i0 i1 i2 i3 i4 i5 → Agrees l i0 → Agrees l i3 × AreTypedAs l i4 i5
    are_typed_fit _ _ _ _ _ _ (no_operand env left) a = (a, tt)
    are_typed_fit _ _ _ _ _ _ (more_operands env middle after left e es t ts o os h0 h1) a =
        let f = types_fit _ _ _ _ _ _ h0 a in
        let r = are_typed_fit _ _ _ _ _ _ h1 f.0 in
        (r.0, (f.1, r.1))

    pub is_term_fit : (i0 : Env) (i1 : TypeTerm) (i2 : Env) (i3 : Qualified) (i4 : Option Bool) → IsTermOf l.types i0 i1 i2 i3 i4 → Agrees l i0 → Agrees l i2 × IsReadyType l.types i3
    is_term_fit _ _ _ _ _ (in_brackets env after term s star q h0 h1) a = is_specified_fit _ _ _ _ h1 a

    pub is_specified_fit : (i0 : Env) (i1 : Spec) (i2 : Env) (i3 : Qualified) → IsSpecified l.types i0 i1 i2 i3 → Agrees l i0 → Agrees l i2 × IsReadyType l.types i3
    is_specified_fit _ _ _ _ (words env after s quals base q h0 h1) a =
        let r = is_base_fit _ _ _ _ h1 a in
        (r.0, ready_qualified l.types quals q r.1)

    pub is_base_fit : (i0 : Env) (i1 : Base) (i2 : Env) (i3 : Qualified) → IsBase l.types i0 i1 i2 i3 → Agrees l i0 → Agrees l i2 × IsReadyType l.types i3
    is_base_fit _ _ _ _ (word env base s t h0 h1) a = (a, record { known = known_wanted l.types _ t h1; shape = refl })
    is_base_fit _ _ _ _ (named env text place d h0 h1 h2) a = (a, record { known = h2; shape = refl })
    is_base_fit _ _ _ _ (struct_tag env base text place d h0 h1 h2 h3) a = (a, record { known = h3; shape = refl })
    is_base_fit _ _ _ _ (struct_members env after base text place fields members void t h0 h1 h2 h3 h4) a =
        (tagged_agrees l text t true after (are_members_fit _ _ _ _ _ h2 (tagged_agrees l text void false env a)), record { known = at_known l.types _ t h4; shape = refl })

    pub are_members_fit : (i0 : Env) (i1 : List Member) (i2 : List Field) (i3 : Env) (i4 : List Member) → AreMembers l.types i0 i1 i2 i3 i4 → Agrees l i0 → Agrees l i3
    are_members_fit _ _ _ _ _ (no_field p0 p1) a = a
    are_members_fit _ _ _ _ _ (more_fields p0 p1 p2 p3 p4 p5 p6 p7 p8 p9 p10 p11 h0 h1 h2 h3) a = are_members_fit _ _ _ _ _ h3 (are_named_fit _ _ _ _ _ _ h2 (is_specified_fit _ _ _ _ h1 a).0)

    pub are_named_fit : (i0 : Env) (i1 : Qualified) (i2 : List Member) (i3 : List Declor) (i4 : Env) (i5 : List Member) → AreNamed l.types i0 i1 i2 i3 i4 i5 → Agrees l i0 → Agrees l i4
    are_named_fit _ _ _ _ _ _ (no_name p0 p1 p2) a = a
    are_named_fit _ _ _ _ _ _ (more_names p0 p1 p2 p3 p4 p5 p6 p7 p8 p9 p10 p11 p12 p13 h0 h1 h2 h3 h4) a = are_named_fit _ _ _ _ _ _ h4 (are_lengths_fit _ _ _ _ _ h1 a)

    pub are_lengths_fit : (i0 : Env) (i1 : Bool) (i2 : List (Option Expr)) (i3 : Env) (i4 : List Length) → AreLengths l.types i0 i1 i2 i3 i4 → Agrees l i0 → Agrees l i3
    are_lengths_fit _ _ _ _ _ (no_length p0 p1) a = a
    are_lengths_fit _ _ _ _ _ (missing p0 p1 p2 p3 p4 h0) a = are_lengths_fit _ _ _ _ _ h0 a
    are_lengths_fit _ _ _ _ _ (given p0 p1 p2 p3 p4 p5 p6 p7 p8 p9 h0 h1 h2 h3) a = are_lengths_fit _ _ _ _ _ h3 (types_fit _ _ _ _ _ _ h0 a).0
