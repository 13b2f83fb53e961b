-- A declaration at file scope has one verdict, whatever numbers types have.
use Rattle.std.specs.Global.{Vec}
use Rattle.std.proofs.Common.{◌≡◌, ℕ, List, [], ◌∷◌, refl, sym, ap, ◌∙◌, subst, Bool, true, false, ◌||◌, Option, Some, None}
use Rattle.std.specs.Prelude.{is_some}
use Rattle.clv_place.specs.declared.place.Place.{Place}
use Rattle.clv_place.specs.declared.stop.Offence.{Offence}
use Rattle.cl_types.specs.declared.types.ClType.{ClType}
use Rattle.cl_types.specs.declared.types.TypeId.{TypeId}
use Rattle.cl_types.specs.Table.{AreBuilt}
use Rattle.cl_ast.specs.declared.declaration.External.{External}
use Rattle.cl_ast.specs.declared.expression.Declor.{Declor}
use Rattle.cl_ast.specs.declared.expression.Expr.{Expr}
use Rattle.cl_ast.specs.declared.expression.Qual.{Qual}
use Rattle.cl_ast.specs.declared.statement.Stmt.{Stmt}
use Rattle.cl_ast.specs.declared.statement.StmtNode.TheVariants as node
use Rattle.cl_ast.specs.declared.statement.StmtNode.TheVariants.{rolls-Block}
use Rattle.cl_ast.specs.declared.statement.StmtNode.TheOpen as layer
use Rattle.cl_ast.specs.declared.statement.StmtNode.TheOpen.{StmtNode-F}
use Rattle.cl_ast.specs.declared.statement.StmtNode.TheViews.{out-StmtNode, out-roll-StmtNode}
use Rattle.cl_tree.specs.declared.statement.TStmt.{TStmt}
use Rattle.cl_rules.specs.declared.rule.Qualified.{Qualified}
use Rattle.cl_rules.specs.Operands.{first_broken}
use Rattle.cl_scope.specs.Names.{Env, left_behind, declare, find_function}
use Rattle.cl_words.specs.declared.naming.Length.{Length}
use Rattle.cl_words.specs.declared.naming.Sketch.{Sketch}
use Rattle.cl_words.specs.Words.{sketch, some_wrong, declared_tree, is_large, is_deep}
use Rattle.cl_make.proofs.Growing.{none_some, some_same}
use Rattle.cl_make.specs.Wanted.{IsDeclaredAs}
use Rattle.cl_type_expr.specs.Expressions.{AreLengths}
use Rattle.cl_type_expr.specs.Offences.{at, LengthOffends}
use Rattle.cl_type_expr.specs.Syntax.{IsDeclor}
use Rattle.cl_variables.specs.Answers.{is_taken}
use Rattle.cl_typing.specs.declared.unit_state.UnitState.{UnitState}
use Rattle.cl_typing.specs.Settings.{State, state, setting}
use Rattle.cl_typing.specs.Statements.{ItemsAre, ItemsOffend}
use Rattle.cl_typing.specs.Units.{with_env, and_size, is_kernel, IsBody, block, other, typedef_tests_at, typedef_tests, type_name, ExternalIs, typedef, types, constants, declared, defined, ExternalOffends, in_typedef, in_lengths, no_typedef, in_types, in_constant_words, in_constants, in_head, in_body}
use Rattle.cl_renaming.specs.Renaming.{type_id, qualified_as, sketch_as, signature_as, env_as, IsRenaming, AreTypes}
use Rattle.cl_renaming.proofs.Scopes.{is_some_as, find_function_as, is_declared_in_as}
use Rattle.cl_renaming.proofs.Wants.{declared_one}
use Rattle.cl_renaming.proofs.Words.{sketch_of_as, no_declared_type_as, declared_tree_as}
use Rattle.cl_renaming.proofs.Agreement.{is_specified_same, are_lengths_same, sketch_one}
use Rattle.cl_renaming.proofs.Excluded.{words_no_offence, lengths_no_offence}
use Rattle.cl_renaming.proofs.Excluding.{offence_no_words, offence_no_lengths}
use Rattle.cl_renaming.proofs.OneOffence.{words_one, lengths_one}
use Rattle.cl_verdicts.proofs.States.{setting_as, state_as}
use Rattle.cl_verdicts.proofs.ItemsVerdict.{items_same, items_no_offence, offence_no_items, items_offences_one}
use Rattle.cl_verdicts.proofs.UnitRelation.{IsUnitAs, unit_env, unit_size, unit_function}
use Rattle.cl_verdicts.proofs.HeadVerdict.{head_same, head_no_offence, offence_no_head, head_offences_one}
use Rattle.cl_verdicts.proofs.ConstantVerdict.{declared_same, declared_no_offence, offence_no_declared, declared_offences_one}

-- ---- a body has one list of statements

abbrev block_in : {A B C : Type 0} → StmtNode-F A B C → Option (Vec C)
block_in (layer.Block items) = Some items
block_in _ = None

block_out : (items : Vec Stmt) → out-StmtNode (node.Block items) ≡ layer.Block items
block_out items = ap out-StmtNode (sym (rolls-Block items)) ∙ out-roll-StmtNode (layer.Block items)

blocks_same : (items items2 : Vec Stmt) → node.Block items2 ≡ node.Block items → items2 ≡ items
blocks_same items items2 f =
    some_same items2 items (sym (ap block_in (block_out items2)) ∙ ap (λ z. block_in (out-StmtNode z)) f ∙ ap block_in (block_out items))

pub body_same : (s : Stmt) (ss ss2 : List Stmt) → IsBody s ss → IsBody s ss2 → ss2 ≡ ss
body_same s _ _ (block s1 place items h) (block s2 place2 items2 k) = ap (λ z. z.items) (blocks_same items items2 (sym k.is ∙ h.is))
body_same s _ _ (block s1 place items h) (other s2 k) = absurd (k place items h)
body_same s _ _ (other s1 h) (block s2 place2 items2 k) = absurd (h place2 items2 k)
body_same s _ _ (other s1 h) (other s2 k) = refl

-- ---- typedefs

module _ (r : ℕ → ℕ) where
  is_taken_as : (env : Env) (name : List ℕ) → is_taken (env_as r env) name ≡ is_taken env name
  is_taken_as env name = λ i. is_declared_in_as r env name i || (ap is_some (find_function_as r env name) ∙ is_some_as (signature_as r) (find_function env name)) i

  typedef_tests_as : (again : Bool) (k : Sketch) (large deep : Bool) → typedef_tests_at again (sketch_as r k) large deep ≡ typedef_tests_at again k large deep
  typedef_tests_as again k large deep = λ i. (302, again) ∷ (303, no_declared_type_as r k i) ∷ (304, some_wrong k.lengths) ∷ (326, k.clash) ∷ (501, large) ∷ (502, deep) ∷ []

module _ (cs ds : List ClType) (r : ℕ → ℕ) (e : IsRenaming cs ds r) (bc : AreBuilt [] cs) (b : AreTypes ds) where
  module _ (d : Declor) (typed typed2 : Env) (q q2 : Qualified) (star star2 : Option (List Qual)) (name name2 : List ℕ) (place place2 : Place) (es es2 : List (Option Expr)) (f : typed2 ≡ env_as r typed) (g : q2 ≡ qualified_as r q) (h : IsDeclor d star name place es) (k : IsDeclor d star2 name2 place2 es2) where
    lengths_here : (env2 : Env) (ls2 : List Length) → AreLengths ds typed2 false es2 env2 ls2 → AreLengths ds typed2 false es env2 ls2
    lengths_here env2 ls2 x = subst (λ z. AreLengths ds typed2 false z env2 ls2) (sym k.has ∙ h.has) x

    offence_here : (o : Offence) → LengthOffends ds typed2 false es2 o → LengthOffends ds typed2 false es o
    offence_here o x = subst (λ z. LengthOffends ds typed2 false z o) (sym k.has ∙ h.has) x

    lengths_there : (env env2 : Env) (ls ls2 : List Length) → AreLengths cs typed false es env ls → AreLengths ds typed2 false es2 env2 ls2 → (env2 ≡ env_as r env) × (ls2 ≡ ls)
    lengths_there env env2 ls ls2 x y = are_lengths_same cs ds r e bc b _ _ _ _ _ x typed2 env2 ls2 f (lengths_here env2 ls2 y)

    named_there : name2 ≡ name
    named_there = sym k.is ∙ h.is

    place_there : place2 ≡ place
    place_there = sym k.at ∙ h.at

    module _ (env env2 : Env) (ls ls2 : List Length) (l : AreLengths cs typed false es env ls) (m : AreLengths ds typed2 false es2 env2 ls2) where
      sketch_there : sketch q2 star2 ls2 ≡ sketch_as r (sketch q star ls)
      sketch_there = (λ i. sketch (g i) ((sym k.behind ∙ h.behind) i) ((lengths_there env env2 ls ls2 l m).1 i)) ∙ sketch_of_as r q star ls

      typedef_tests_there : typedef_tests ds (is_taken env2 name2) (sketch q2 star2 ls2) ≡ typedef_tests cs (is_taken env name) (sketch q star ls)
      typedef_tests_there =
          (λ i. typedef_tests ds (is_taken ((lengths_there env env2 ls ls2 l m).0 i) (named_there i)) (sketch_there i))
          ∙ (λ i. typedef_tests_at (is_taken_as r env name i) (sketch_as r (sketch q star ls)) (is_large (declared_tree_as cs ds r bc b.built e (sketch q star ls) 1 i)) (is_deep (declared_tree_as cs ds r bc b.built e (sketch q star ls) 1 i)))
          ∙ typedef_tests_as r (is_taken env name) (sketch q star ls) (is_large (declared_tree cs (sketch q star ls) 1)) (is_deep (declared_tree cs (sketch q star ls) 1))

      declared_there : (t t2 : TypeId) → IsDeclaredAs cs (sketch q star ls) 1 t → IsDeclaredAs ds (sketch q2 star2 ls2) 1 t2 → declare (type_name name2 t2 (sketch q2 star2 ls2)) env2 ≡ env_as r (declare (type_name name t (sketch q star ls)) env)
      declared_there t t2 x y =
          let n : t2 ≡ type_id r t = declared_one cs ds r e b (sketch q star ls) 1 t t2 (sketch_one cs ds r e bc b q star ls) x (subst (λ z. IsDeclaredAs ds z 1 t2) sketch_there y) in
          λ i. declare (type_name (named_there i) (n i) (sketch_there i)) ((lengths_there env env2 ls ls2 l m).0 i)

  -- ---- bodies

  module _ (kernel : Bool) (s : Stmt) (inner inner2 : Env) (q q2 : Qualified) (ss ss2 : List Stmt) (f : inner2 ≡ env_as r inner) (g : q2 ≡ qualified_as r q) (h : IsBody s ss) (k : IsBody s ss2) where
    setting_there : setting kernel q2.ty ≡ setting_as r (setting kernel q.ty)
    setting_there = ap (λ z. setting kernel z.ty) g

    state_there : state inner2 [] ≡ state_as r (state inner [])
    state_there = ap (λ z. state z []) f

    items_here : (after2 : State) (ts2 : List TStmt) → ItemsAre ds (setting kernel q2.ty) (state inner2 []) ss2 after2 ts2 → ItemsAre ds (setting kernel q2.ty) (state inner2 []) ss after2 ts2
    items_here after2 ts2 x = subst (λ z. ItemsAre ds (setting kernel q2.ty) (state inner2 []) z after2 ts2) (body_same s ss ss2 h k) x

    item_offence_here : (o : Offence) → ItemsOffend ds (setting kernel q2.ty) (state inner2 []) ss2 o → ItemsOffend ds (setting kernel q2.ty) (state inner2 []) ss o
    item_offence_here o x = subst (λ z. ItemsOffend ds (setting kernel q2.ty) (state inner2 []) z o) (body_same s ss ss2 h k) x

    body_there : (after after2 : State) (ts ts2 : List TStmt) → ItemsAre cs (setting kernel q.ty) (state inner []) ss after ts → ItemsAre ds (setting kernel q2.ty) (state inner2 []) ss2 after2 ts2 → after2 ≡ state_as r after
    body_there after after2 ts ts2 x y = items_same cs ds r e bc b _ _ _ _ _ x (setting kernel q2.ty) (state inner2 []) after2 ts2 setting_there state_there (items_here after2 ts2 y)

    body_no_offence : (o : Offence) (after : State) (ts : List TStmt) → ItemsOffend ds (setting kernel q2.ty) (state inner2 []) ss2 o → ItemsAre cs (setting kernel q.ty) (state inner []) ss after ts → ⊥
    body_no_offence o after ts x y = items_no_offence cs ds r e bc b _ _ _ _ (item_offence_here o x) (setting kernel q.ty) (state inner []) after ts setting_there state_there y

    offence_no_body : (o : Offence) (after2 : State) (ts2 : List TStmt) → ItemsOffend cs (setting kernel q.ty) (state inner []) ss o → ItemsAre ds (setting kernel q2.ty) (state inner2 []) ss2 after2 ts2 → ⊥
    offence_no_body o after2 ts2 x y = offence_no_items cs ds r e bc b _ _ _ _ x (setting kernel q2.ty) (state inner2 []) after2 ts2 setting_there state_there (items_here after2 ts2 y)

    body_offences_one : (o o2 : Offence) → ItemsOffend cs (setting kernel q.ty) (state inner []) ss o → ItemsOffend ds (setting kernel q2.ty) (state inner2 []) ss2 o2 → o2 ≡ o
    body_offences_one o o2 x y = items_offences_one cs ds r e bc b _ _ _ _ x (setting kernel q2.ty) (state inner2 []) o2 setting_there state_there (item_offence_here o2 y)

  -- ---- declarations

  -- what stands behind a function without its body
  head_behind : (u v : UnitState) (f : IsUnitAs r u v) (name : List ℕ) (env env2 : Env) (size size2 : Option (List ℕ)) → env2 ≡ env_as r env → size2 ≡ size → IsUnitAs r (and_size name size (with_env env u)) (and_size name size2 (with_env env2 v))
  head_behind u v f name env env2 size size2 g h =
      subst (λ z. IsUnitAs r (and_size name size (with_env env u)) (and_size name z (with_env env2 v))) (sym h) (unit_size r (with_env env u) (with_env env2 v) name size (unit_env r u v env env2 f g))

  module _ (bodies : List (List ℕ)) where
    pub external_same : (i0 : UnitState) (i1 : External) (i2 : UnitState) → ExternalIs cs bodies i0 i1 i2 → (j0 j2 : UnitState) → IsUnitAs r i0 j0 → ExternalIs ds bodies j0 i1 j2 → IsUnitAs r i2 j2
    external_same _ _ _ (typedef u spec d typed env q star name place es ls t h0 h1 h2 h3 h4) _ _ f (typedef u2 spec2 d2 typed2 env2 q2 star2 name2 place2 es2 ls2 t2 k0 k1 k2 k3 k4) =
        let a = is_specified_same cs ds r e bc b _ _ _ _ h0 u2.env typed2 q2 f.env k0 in
        unit_env r u u2 _ _ f (declared_there d typed typed2 q q2 star star2 name name2 place place2 es es2 a.0 a.1 h1 k1 env env2 ls ls2 h2 k2 t t2 h4 k4)
    external_same _ _ _ (types u spec env q h0) _ _ f (types u2 spec2 env2 q2 k0) =
        unit_env r u u2 env env2 f (is_specified_same cs ds r e bc b _ _ _ _ h0 u2.env env2 q2 f.env k0).0
    external_same _ _ _ (constants u after spec items env q h0 h1) _ _ f (constants u2 after2 spec2 items2 env2 q2 k0 k1) =
        let a = is_specified_same cs ds r e bc b _ _ _ _ h0 u2.env env2 q2 f.env k0 in
        declared_same cs ds r e bc b _ _ _ _ h1 (with_env env2 u2) q2 after2 (unit_env r u u2 env env2 f a.0) a.1 k1
    external_same _ _ _ (declared u words spec name place params typed inner q vars size h0) _ _ f (declared u2 words2 spec2 name2 place2 params2 typed2 inner2 q2 vars2 size2 k0) =
        let a = head_same cs ds r e bc b u u2 f words.items name bodies spec params.items false typed inner q vars size h0 typed2 inner2 q2 vars2 size2 k0 in
        head_behind u u2 f name (left_behind typed inner) (left_behind typed2 inner2) size size2 (λ i. left_behind (a.0 i) (a.1 i)) a.4
    external_same _ _ _ (defined u words spec name place params body typed inner q vars size ss after ts t fn h0 h1 h2 h3 h4) _ _ f (defined u2 words2 spec2 name2 place2 params2 body2 typed2 inner2 q2 vars2 size2 ss2 after2 ts2 t2 fn2 k0 k1 k2 k3 k4) =
        let a = head_same cs ds r e bc b u u2 f words.items name bodies spec params.items true typed inner q vars size h0 typed2 inner2 q2 vars2 size2 k0 in
        let s = body_there (is_kernel words.items) body inner inner2 q q2 ss ss2 a.1 a.2 h1 k1 after after2 ts.items ts2.items h2 k2 in
        let w = head_behind u u2 f name (left_behind typed after.env) (left_behind typed2 after2.env) size size2 (λ i. left_behind (a.0 i) (s i).env) a.4 in
        unit_function r _ _ fn fn2 w (ap (λ z. z.name) k4 ∙ sym (ap (λ z. z.name) h4)) (ap (λ z. z.kernel) k4 ∙ sym (ap (λ z. z.kernel) h4))

    pub external_no_offence : (j0 : UnitState) (j1 : External) (j2 : Offence) → ExternalOffends ds bodies j0 j1 j2 → (i0 i2 : UnitState) → IsUnitAs r i0 j0 → ExternalIs cs bodies i0 j1 i2 → ⊥
    external_no_offence _ _ _ (in_typedef u2 spec d o h0) _ _ f (typedef u spec1 d1 typed env q star name place es ls t k0 k1 k2 k3 k4) = words_no_offence cs ds r e bc b _ _ _ h0 u.env typed q f.env k0
    external_no_offence _ _ _ (in_lengths u2 spec d typed2 q2 star2 name2 place2 es2 o h0 h1 h2) _ _ f (typedef u spec1 d1 typed env q star name place es ls t k0 k1 k2 k3 k4) =
        let a = is_specified_same cs ds r e bc b _ _ _ _ k0 u2.env typed2 q2 f.env h0 in
        lengths_no_offence cs ds r e bc b _ _ _ _ (offence_here d typed typed2 q q2 star star2 name name2 place place2 es es2 a.0 a.1 k1 h1 o h2) typed env ls a.0 k2
    external_no_offence _ _ _ (no_typedef u2 spec d typed2 env2 q2 star2 name2 place2 es2 ls2 code h0 h1 h2 h3) _ _ f (typedef u spec1 d1 typed env q star name place es ls t k0 k1 k2 k3 k4) =
        let a = is_specified_same cs ds r e bc b _ _ _ _ k0 u2.env typed2 q2 f.env h0 in
        none_some (sym k3 ∙ ap first_broken (sym (typedef_tests_there d typed typed2 q q2 star star2 name name2 place place2 es es2 a.0 a.1 k1 h1 env env2 ls ls2 k2 h2)) ∙ h3)
    external_no_offence _ _ _ (in_types u2 spec o h0) _ _ f (types u spec1 env q k0) = words_no_offence cs ds r e bc b _ _ _ h0 u.env env q f.env k0
    external_no_offence _ _ _ (in_constant_words u2 spec items o h0) _ _ f (constants u after spec1 items1 env q k0 k1) = words_no_offence cs ds r e bc b _ _ _ h0 u.env env q f.env k0
    external_no_offence _ _ _ (in_constants u2 spec items env2 q2 o h0 h1) _ _ f (constants u after spec1 items1 env q k0 k1) =
        let a = is_specified_same cs ds r e bc b _ _ _ _ k0 u2.env env2 q2 f.env h0 in
        declared_no_offence cs ds r e bc b _ _ _ _ h1 (with_env env u) q after (unit_env r u u2 env env2 f a.0) a.1 k1
    external_no_offence _ _ _ (in_head u2 words spec name place params body o h0) _ _ f (declared u words1 spec1 name1 place1 params1 typed inner q vars size k0) =
        head_no_offence cs ds r e bc b u u2 f words.items name bodies spec params.items false place o h0 typed inner q vars size k0
    external_no_offence _ _ _ (in_head u2 words spec name place params body o h0) _ _ f (defined u words1 spec1 name1 place1 params1 body1 typed inner q vars size ss after ts t fn k0 k1 k2 k3 k4) =
        head_no_offence cs ds r e bc b u u2 f words.items name bodies spec params.items true place o h0 typed inner q vars size k0
    external_no_offence _ _ _ (in_body u2 words spec name place params body typed2 inner2 q2 vars2 size2 ss2 o h0 h1 h2) _ _ f (defined u words1 spec1 name1 place1 params1 body1 typed inner q vars size ss after ts t fn k0 k1 k2 k3 k4) =
        let a = head_same cs ds r e bc b u u2 f words.items name bodies spec params.items true typed inner q vars size k0 typed2 inner2 q2 vars2 size2 h0 in
        body_no_offence (is_kernel words.items) body inner inner2 q q2 ss ss2 a.1 a.2 k1 h1 o after ts.items h2 k2

    pub offence_no_external : (j0 : UnitState) (j1 : External) (j2 : Offence) → ExternalOffends cs bodies j0 j1 j2 → (i0 i2 : UnitState) → IsUnitAs r j0 i0 → ExternalIs ds bodies i0 j1 i2 → ⊥
    offence_no_external _ _ _ (in_typedef u spec d o h0) _ _ f (typedef u2 spec1 d1 typed2 env2 q2 star2 name2 place2 es2 ls2 t2 k0 k1 k2 k3 k4) = offence_no_words cs ds r e bc b _ _ _ h0 u2.env typed2 q2 f.env k0
    offence_no_external _ _ _ (in_lengths u spec d typed q star name place es o h0 h1 h2) _ _ f (typedef u2 spec1 d1 typed2 env2 q2 star2 name2 place2 es2 ls2 t2 k0 k1 k2 k3 k4) =
        let a = is_specified_same cs ds r e bc b _ _ _ _ h0 u2.env typed2 q2 f.env k0 in
        offence_no_lengths cs ds r e bc b _ _ _ _ h2 typed2 env2 ls2 a.0 (lengths_here d typed typed2 q q2 star star2 name name2 place place2 es es2 a.0 a.1 h1 k1 env2 ls2 k2)
    offence_no_external _ _ _ (no_typedef u spec d typed env q star name place es ls code h0 h1 h2 h3) _ _ f (typedef u2 spec1 d1 typed2 env2 q2 star2 name2 place2 es2 ls2 t2 k0 k1 k2 k3 k4) =
        let a = is_specified_same cs ds r e bc b _ _ _ _ h0 u2.env typed2 q2 f.env k0 in
        none_some (sym k3 ∙ ap first_broken (typedef_tests_there d typed typed2 q q2 star star2 name name2 place place2 es es2 a.0 a.1 h1 k1 env env2 ls ls2 h2 k2) ∙ h3)
    offence_no_external _ _ _ (in_types u spec o h0) _ _ f (types u2 spec1 env2 q2 k0) = offence_no_words cs ds r e bc b _ _ _ h0 u2.env env2 q2 f.env k0
    offence_no_external _ _ _ (in_constant_words u spec items o h0) _ _ f (constants u2 after2 spec1 items1 env2 q2 k0 k1) = offence_no_words cs ds r e bc b _ _ _ h0 u2.env env2 q2 f.env k0
    offence_no_external _ _ _ (in_constants u spec items env q o h0 h1) _ _ f (constants u2 after2 spec1 items1 env2 q2 k0 k1) =
        let a = is_specified_same cs ds r e bc b _ _ _ _ h0 u2.env env2 q2 f.env k0 in
        offence_no_declared cs ds r e bc b _ _ _ _ h1 (with_env env2 u2) q2 after2 (unit_env r u u2 env env2 f a.0) a.1 k1
    offence_no_external _ _ _ (in_head u words spec name place params body o h0) _ _ f (declared u2 words1 spec1 name1 place1 params1 typed2 inner2 q2 vars2 size2 k0) =
        offence_no_head cs ds r e bc b u u2 f words.items name bodies spec params.items false place o h0 typed2 inner2 q2 vars2 size2 k0
    offence_no_external _ _ _ (in_head u words spec name place params body o h0) _ _ f (defined u2 words1 spec1 name1 place1 params1 body1 typed2 inner2 q2 vars2 size2 ss2 after2 ts2 t2 fn2 k0 k1 k2 k3 k4) =
        offence_no_head cs ds r e bc b u u2 f words.items name bodies spec params.items true place o h0 typed2 inner2 q2 vars2 size2 k0
    offence_no_external _ _ _ (in_body u words spec name place params body typed inner q vars size ss o h0 h1 h2) _ _ f (defined u2 words1 spec1 name1 place1 params1 body1 typed2 inner2 q2 vars2 size2 ss2 after2 ts2 t2 fn2 k0 k1 k2 k3 k4) =
        let a = head_same cs ds r e bc b u u2 f words.items name bodies spec params.items true typed inner q vars size h0 typed2 inner2 q2 vars2 size2 k0 in
        offence_no_body (is_kernel words.items) body inner inner2 q q2 ss ss2 a.1 a.2 h1 k1 o after2 ts2.items h2 k2

    pub external_offences_one : (j0 : UnitState) (j1 : External) (j2 : Offence) → ExternalOffends cs bodies j0 j1 j2 → (i0 : UnitState) (p : Offence) → IsUnitAs r j0 i0 → ExternalOffends ds bodies i0 j1 p → p ≡ j2
    external_offences_one _ _ _ (in_typedef u spec d o h0) _ _ f (in_typedef u2 spec1 d1 o2 k0) = words_one cs ds r e bc b _ _ _ h0 u2.env o2 f.env k0
    external_offences_one _ _ _ (in_typedef u spec d o h0) _ _ f (in_lengths u2 spec1 d1 typed2 q2 star2 name2 place2 es2 o2 k0 k1 k2) = absurd (offence_no_words cs ds r e bc b _ _ _ h0 u2.env typed2 q2 f.env k0)
    external_offences_one _ _ _ (in_typedef u spec d o h0) _ _ f (no_typedef u2 spec1 d1 typed2 env2 q2 star2 name2 place2 es2 ls2 code2 k0 k1 k2 k3) = absurd (offence_no_words cs ds r e bc b _ _ _ h0 u2.env typed2 q2 f.env k0)
    external_offences_one _ _ _ (in_lengths u spec d typed q star name place es o h0 h1 h2) _ _ f (in_typedef u2 spec1 d1 o2 k0) = absurd (words_no_offence cs ds r e bc b _ _ _ k0 u.env typed q f.env h0)
    external_offences_one _ _ _ (in_lengths u spec d typed q star name place es o h0 h1 h2) _ _ f (in_lengths u2 spec1 d1 typed2 q2 star2 name2 place2 es2 o2 k0 k1 k2) =
        let a = is_specified_same cs ds r e bc b _ _ _ _ h0 u2.env typed2 q2 f.env k0 in
        lengths_one cs ds r e bc b _ _ _ _ h2 typed2 o2 a.0 (offence_here d typed typed2 q q2 star star2 name name2 place place2 es es2 a.0 a.1 h1 k1 o2 k2)
    external_offences_one _ _ _ (in_lengths u spec d typed q star name place es o h0 h1 h2) _ _ f (no_typedef u2 spec1 d1 typed2 env2 q2 star2 name2 place2 es2 ls2 code2 k0 k1 k2 k3) =
        let a = is_specified_same cs ds r e bc b _ _ _ _ h0 u2.env typed2 q2 f.env k0 in
        absurd (offence_no_lengths cs ds r e bc b _ _ _ _ h2 typed2 env2 ls2 a.0 (lengths_here d typed typed2 q q2 star star2 name name2 place place2 es es2 a.0 a.1 h1 k1 env2 ls2 k2))
    external_offences_one _ _ _ (no_typedef u spec d typed env q star name place es ls code h0 h1 h2 h3) _ _ f (in_typedef u2 spec1 d1 o2 k0) = absurd (words_no_offence cs ds r e bc b _ _ _ k0 u.env typed q f.env h0)
    external_offences_one _ _ _ (no_typedef u spec d typed env q star name place es ls code h0 h1 h2 h3) _ _ f (in_lengths u2 spec1 d1 typed2 q2 star2 name2 place2 es2 o2 k0 k1 k2) =
        let a = is_specified_same cs ds r e bc b _ _ _ _ h0 u2.env typed2 q2 f.env k0 in
        absurd (lengths_no_offence cs ds r e bc b _ _ _ _ (offence_here d typed typed2 q q2 star star2 name name2 place place2 es es2 a.0 a.1 h1 k1 o2 k2) typed env ls a.0 h2)
    external_offences_one _ _ _ (no_typedef u spec d typed env q star name place es ls code h0 h1 h2 h3) _ _ f (no_typedef u2 spec1 d1 typed2 env2 q2 star2 name2 place2 es2 ls2 code2 k0 k1 k2 k3) =
        let a = is_specified_same cs ds r e bc b _ _ _ _ h0 u2.env typed2 q2 f.env k0 in
        let c = some_same code2 code (sym k3 ∙ ap first_broken (typedef_tests_there d typed typed2 q q2 star star2 name name2 place place2 es es2 a.0 a.1 h1 k1 env env2 ls ls2 h2 k2) ∙ h3) in
        let l = place_there d typed typed2 q q2 star star2 name name2 place place2 es es2 a.0 a.1 h1 k1 in
        λ i. at (c i) (l i)
    external_offences_one _ _ _ (in_types u spec o h0) _ _ f (in_types u2 spec1 o2 k0) = words_one cs ds r e bc b _ _ _ h0 u2.env o2 f.env k0
    external_offences_one _ _ _ (in_constant_words u spec items o h0) _ _ f (in_constant_words u2 spec1 items1 o2 k0) = words_one cs ds r e bc b _ _ _ h0 u2.env o2 f.env k0
    external_offences_one _ _ _ (in_constant_words u spec items o h0) _ _ f (in_constants u2 spec1 items1 env2 q2 o2 k0 k1) = absurd (offence_no_words cs ds r e bc b _ _ _ h0 u2.env env2 q2 f.env k0)
    external_offences_one _ _ _ (in_constants u spec items env q o h0 h1) _ _ f (in_constant_words u2 spec1 items1 o2 k0) = absurd (words_no_offence cs ds r e bc b _ _ _ k0 u.env env q f.env h0)
    external_offences_one _ _ _ (in_constants u spec items env q o h0 h1) _ _ f (in_constants u2 spec1 items1 env2 q2 o2 k0 k1) =
        let a = is_specified_same cs ds r e bc b _ _ _ _ h0 u2.env env2 q2 f.env k0 in
        declared_offences_one cs ds r e bc b _ _ _ _ h1 (with_env env2 u2) q2 o2 (unit_env r u u2 env env2 f a.0) a.1 k1
    external_offences_one _ _ _ (in_head u words spec name place params body o h0) _ _ f (in_head u2 words1 spec1 name1 place1 params1 body1 o2 k0) =
        head_offences_one cs ds r e bc b u u2 f words.items name spec params.items (is_some body) place o h0 o2 k0
    external_offences_one _ _ _ (in_head u words spec name place params body o h0) _ _ f (in_body u2 words1 spec1 name1 place1 params1 body1 typed2 inner2 q2 vars2 size2 ss2 o2 k0 k1 k2) =
        absurd (offence_no_head cs ds r e bc b u u2 f words.items name bodies spec params.items true place o h0 typed2 inner2 q2 vars2 size2 k0)
    external_offences_one _ _ _ (in_body u words spec name place params body typed inner q vars size ss o h0 h1 h2) _ _ f (in_head u2 words1 spec1 name1 place1 params1 body1 o2 k0) =
        absurd (head_no_offence cs ds r e bc b u u2 f words.items name bodies spec params.items true place o2 k0 typed inner q vars size h0)
    external_offences_one _ _ _ (in_body u words spec name place params body typed inner q vars size ss o h0 h1 h2) _ _ f (in_body u2 words1 spec1 name1 place1 params1 body1 typed2 inner2 q2 vars2 size2 ss2 o2 k0 k1 k2) =
        let a = head_same cs ds r e bc b u u2 f words.items name bodies spec params.items true typed inner q vars size h0 typed2 inner2 q2 vars2 size2 k0 in
        body_offences_one (is_kernel words.items) body inner inner2 q q2 ss ss2 a.1 a.2 h1 k1 o o2 h2 k2
