-- Calls of built-in functions, from what is found of their names and arguments.
use Rattle.std.proofs.Common.{◌≡◌, ℕ, suc, ◌+◌, ◌<◌, Bool, true, false, if◌then◌else◌, ◌&&◌, List, [], ◌∷◌, ◌++◌, length, map, drop, get_or, Option, Some, None, refl, sym, ap, ◌∙◌, subst, append_assoc, not, ◌||◌, inl, inr, add-one}
use Rattle.std.proofs.Math.Seq.{drop-cons}
use Rattle.std.proofs.lemmas.List.{append-nil, length-map}
use Rattle.std.proofs.lemmas.List.Elements.{All-head, All-tail, All-push, All-nil, All-get_or}
use Rattle.clv_place.specs.declared.place.Place.{Place}
use Rattle.clv_place.specs.declared.stop.Stop.{Stop}
use Rattle.clv_place.specs.declared.stop.Stop.TheVariants.{Out, NoMemory}
use Rattle.cl_types.specs.declared.types.ClType.{ClType}
use Rattle.cl_types.specs.declared.types.TypeId.{TypeId}
use Rattle.cl_types.specs.Table.{IsTable}
use Rattle.cl_builtins.specs.declared.call.Found.{Found}
use Rattle.cl_builtins.specs.declared.kind.Kind.{Kind}
use Rattle.cl_builtins.specs.Forms.{form_of}
use Rattle.cl_builtins.specs.Found.{IsKnown, AreKnown, IsGrown, HasKind, Means, HasNoForm}
use Rattle.cl_builtins.specs.Kinds.{kind_of}
use Rattle.cl_builtins.specs.Names.{lookup, entries}
use Rattle.std.specs.List.{AllZip}
use Rattle.cl_builtins.proofs.Growth.{grown_twice, grown_known}
use Rattle.cl_ast.specs.declared.expression.Expr.{Expr}
use Rattle.cl_ast.specs.declared.expression.ExprNode.TheVariants as node
use Rattle.cl_ast.specs.declared.expression.Base.TheViews.{out-Expr}
use Rattle.cl_tree.specs.Constants.{constancy_of, divides, number_of}
use Rattle.cl_tree.specs.Shapes.{is_array, is_pointer}
use Rattle.cl_scope.specs.Names.{Env}
use Rattle.cl_scope.specs.Scopes.{IsKnownEnv}
use Rattle.cl_rules.specs.declared.rule.Head.TheVariants as head
use Rattle.cl_rules.specs.declared.rule.Made.{Made}
use Rattle.cl_rules.specs.declared.rule.Operand.{Operand}
use Rattle.cl_rules.specs.declared.rule.Want.{Want}
use Rattle.cl_rules.specs.declared.rule.Want.TheVariants as want
use Rattle.cl_rules.specs.Operands.{value, seen, to_array}
use Rattle.cl_rules.specs.Calls.{wants_of}
use Rattle.cl_make.specs.declared.typed.Typed.{Typed}
use Rattle.cl_make.specs.Building.{IsMade}
use Rattle.cl_make.specs.Answered.{IsGiven, IsMadeOf}
use Rattle.cl_make.specs.Ready.{From, Grows, IsReady, AreReady, IsReadyOperand, tree_of, operand_in}
use Rattle.cl_make.specs.Wanted.{IsGivable, IsAsked}
use Rattle.cl_make.proofs.Growing.{grows_twice, grows_itself}
use Rattle.cl_make.proofs.Stays.{from_stays, kind_stays, wanted_known, constancy_stays, number_of_stays, ready_operand_stays, all_known_stay}
use Rattle.cl_make.proofs.Trees.{ready_stable}
use Rattle.cl_make.proofs.Asked.{seen_askable, arguments_asked}
use Rattle.cl_type_expr.specs.Judging.{judge}
use Rattle.cl_type_expr.specs.Expressions.{first_left, decays, argument_want, AreArguments, none as no_argument, more as one_argument, is_fence, is_flag, are_flags, flags_fit, or_later, first_divides, flag_divides, built_in}
use Rattle.cl_type_expr.specs.Offences.{at, Offends, flag_out, no_function, no_form, no_flag}
use Rattle.cl_type_expr.specs.Typing.{AreTypedAs, NodeIs, NodeStops, AreReadyOperands, IsFoundAt, FoundStops}
use Rattle.cl_type_expr.proofs.Forms.{form_counts, zip_length, zip_known}
use Rattle.cl_type_expr.proofs.Nodes.{is_node, flagged, judged_later}

-- ---- arguments

and_both : (a b c : Bool) → (a && b && not c) ≡ true → (b ≡ true) × (c ≡ false)
and_both true true false h = (refl, refl)
and_both true true true h = cc
and_both true false c h = cc
and_both false b c h = cc

pub argument_givable : (cs : List ClType) (o : Operand) → IsTable cs → IsReadyOperand cs o → IsGivable cs (argument_want o)
argument_givable cs o b r = by (decays o) refl
  where
    by : (d : Bool) → decays o ≡ d → IsGivable cs (if d then want.Of (seen o) else want.Type o.facts.ty)
    by true e = let p = and_both (is_array o.shape) (is_pointer (seen o)) (to_array o) e in seen_askable cs b o r p.0 p.1
    by false e = r.known

-- the types of the arguments up to an index
pub record ArgumentsSoFar (first now : List ClType) (os : List Operand) (i : ℕ) (ts : List TypeId) : Type 0 where
  pub goes : From now (λ more. (rest : List TypeId) → AreArguments more (drop i os) rest → AreArguments more os (ts ++ rest))
  pub known : AreKnown now ts
  pub grown : Grows first now

pub arguments_start : (cs : List ClType) (os : List Operand) → IsTable cs → ArgumentsSoFar cs cs os 0 []
arguments_start cs os b = record { goes = λ more m rest h. h; known = All-nil (IsKnown cs); grown = grows_itself cs b }

pub arguments_next : (first now new : List ClType) (os : List Operand) (i : ℕ) (o : Operand) (ts all : List TypeId) (t : TypeId) → ArgumentsSoFar first now os i ts → drop i os ≡ o ∷ drop (i + 1) os → Grows now new → IsGiven new (argument_want o) t → all ≡ ts ++ t ∷ [] → ArgumentsSoFar first new os (i + 1) all
arguments_next first now new os i o ts all t h next g given is = record {
  goes = λ more m rest r. subst (AreArguments more os) (sym (append_assoc ts (t ∷ []) rest) ∙ ap (λ z. z ++ rest) (sym is))
      (h.goes more (grown_twice now new more g.grown m) (t ∷ rest) (subst (λ z. AreArguments more z (t ∷ rest)) (sym next) (one_argument o (drop (i + 1) os) t rest (given more m) r)));
  known = subst (AreKnown new) (sym is) (All-push (IsKnown new) ts t (all_known_stay now new ts g.grown h.known) (wanted_known new (argument_want o) t (given new ([], sym (append-nil new)))));
  grown = grows_twice first now new h.grown g;
}

-- an argument is the one at its index
pub argument_asked : (first now : List ClType) (os : List Operand) (i : ℕ) (d : Operand) (w : Want) → IsTable first → Grows first now → AreReadyOperands first os → i < length os → w ≡ argument_want (get_or os i d) → IsGivable now w
argument_asked first now os i d w b g h low is =
    subst (IsGivable now) (sym is) (argument_givable now (get_or os i d) g.table (ready_operand_stays first now (get_or os i d) b g.grown (All-get_or (IsReadyOperand first) os i d low h)))

pub arguments_step : (first now new : List ClType) (os : List Operand) (i : ℕ) (d : Operand) (w : Want) (ts all : List TypeId) (t : TypeId) → ArgumentsSoFar first now os i ts → i < length os → w ≡ argument_want (get_or os i d) → Grows now new → IsGiven new w t → all ≡ ts ++ t ∷ [] → ArgumentsSoFar first new os (i + 1) all
arguments_step first now new os i d w ts all t h low is g given push =
    arguments_next first now new os i (get_or os i d) ts all t h (drop-cons os i d low ∙ ap (λ n. get_or os i d ∷ drop n os) (sym (add-one i))) g (subst (λ z. IsGiven new z t) is given) push

pub arguments_end : (first now : List ClType) (os : List Operand) (i : ℕ) (ts : List TypeId) → ArgumentsSoFar first now os i ts → drop i os ≡ [] → From now (λ more. AreArguments more os ts)
arguments_end first now os i ts h done = λ more m. subst (AreArguments more os) (append-nil ts) (h.goes more m [] (subst (λ z. AreArguments more z []) (sym done) no_argument))

-- ---- what is found stays

kinds_stay : (old new : List ClType) (ts : List TypeId) → IsTable old → IsGrown old new → AreKnown old ts → map (kind_of new) ts ≡ map (kind_of old) ts
kinds_stay old new [] b g h = refl
kinds_stay old new (t ∷ ts) b g h =
    ap (λ k. k ∷ map (kind_of new) ts) (kind_stays old new t b g (All-head (IsKnown old) t ts h)) ∙ ap (λ ks. kind_of old t ∷ ks) (kinds_stay old new ts b g (All-tail (IsKnown old) t ts h))

kind_later : (old new : List ClType) (k : Kind) (t : TypeId) → IsTable old → IsGrown old new → HasKind old k t → HasKind new k t
kind_later old new k t b g h = record { known = grown_known old new t g h.known; is = kind_stays old new t b g h.known ∙ h.is }

zip_later : (old new : List ClType) (ks : List Kind) (ts : List TypeId) → IsTable old → IsGrown old new → AllZip (HasKind old) ks ts → AllZip (HasKind new) ks ts
zip_later old new [] [] b g h = h
zip_later old new [] (t ∷ ts) b g h = absurd h
zip_later old new (k ∷ ks) [] b g h = absurd h
zip_later old new (k ∷ ks) (t ∷ ts) b g h = (kind_later old new k t b g h.0, zip_later old new ks ts b g h.1)

means_later : (mid new more : List ClType) (name : List ℕ) (ts : List TypeId) (found : Found) → IsTable mid → IsTable new → IsGrown mid new → IsGrown new more → AreKnown mid ts → Means name mid ts new found → Means name more ts more found
means_later mid new more name ts found b n g m k h = record {
  entry = h.entry;
  form = h.form;
  named = h.named;
  fits = ap (form_of h.entry.1) (kinds_stay mid more ts b (grown_twice mid new more g m) k) ∙ h.fits;
  is = record {
    builtin = h.is.builtin;
    params = zip_later new more h.form.params found.params n m h.is.params;
    result = kind_later new more h.form.result found.result n m h.is.result;
  };
}

arguments_length : (cs : List ClType) (os : List Operand) (ts : List TypeId) → AreArguments cs os ts → length ts ≡ length os
arguments_length cs os ts no_argument = refl
arguments_length cs os ts (one_argument o os0 t ts0 h rest) = ap suc (arguments_length cs os0 ts0 rest)

pub found_ok : (mid new : List ClType) (name : List ℕ) (os : List Operand) (ts : List TypeId) (found : Found) → IsTable mid → Grows mid new → From mid (λ more. AreArguments more os ts) → AreKnown mid ts → Means name mid ts new found → IsFoundAt new name os found
found_ok mid new name os ts found b g args k h = record {
  args = ts;
  wanted = from_stays mid new (λ more. AreArguments more os ts) g.grown args;
  means = λ more m. means_later mid new more name ts found b g.table g.grown m k h;
  params = zip_known new h.form.params found.params h.is.params;
  result = h.is.result.known;
  each = zip_length new h.form.params found.params h.is.params ∙ form_counts h.entry.1 (map (kind_of mid) ts) h.form h.fits ∙ length-map ts (kind_of mid) ∙ arguments_length mid os ts (args mid ([], sym (append-nil mid)));
}

pub found_unfit : (mid new : List ClType) (name : List ℕ) (place : Place) (os : List Operand) (ts : List TypeId) → IsTable mid → IsGrown mid new → From mid (λ more. AreArguments more os ts) → AreKnown mid ts → HasNoForm name mid ts → FoundStops new name place os (Out (at 329 place))
found_unfit mid new name place os ts b g args k h = inr (record {
  code = refl;
  args = ts;
  wanted = from_stays mid new (λ more. AreArguments more os ts) g args;
  unfit = λ more m. record { entry = h.entry; named = h.named; unfit = ap (form_of h.entry.1) (kinds_stay mid more ts b (grown_twice mid new more g m) k) ∙ h.unfit };
})

pub found_none : (new : List ClType) (name : List ℕ) (place : Place) (os : List Operand) → lookup entries name ≡ None → FoundStops new name place os (Out (at 301 place))
found_none new name place os h = inl (refl, h)

-- ---- flags

divides_stay : (old new : List ClType) (rs : List Typed) → IsGrown old new → AreReady old rs → first_divides new (map tree_of rs) ≡ first_divides old (map tree_of rs)
divides_stay old new [] g h = refl
divides_stay old new (r ∷ rs) g h =
    ap (λ c. or_later (divides c) (first_divides new (map tree_of rs))) (constancy_stays old new r.tree g (All-head (IsReady old) r rs h).steady)
    ∙ ap (or_later (divides (constancy_of old r.tree))) (divides_stay old new rs g (All-tail (IsReady old) r rs h))

flags_stay : (old new : List ClType) (rs : List Typed) → IsTable old → IsGrown old new → AreReady old rs → are_flags new (map tree_of rs) ≡ are_flags old (map tree_of rs)
flags_stay old new [] b g h = refl
flags_stay old new (r ∷ rs) b g h =
    ap (λ n. is_flag n && are_flags new (map tree_of rs)) (number_of_stays old new r.tree b g (ready_stable old r (All-head (IsReady old) r rs h)))
    ∙ ap (λ f. is_flag (number_of old r.tree) && f) (flags_stay old new rs b g (All-tail (IsReady old) r rs h))

flag_divides_stays : (old new : List ClType) (name : List ℕ) (rs : List Typed) → IsGrown old new → AreReady old rs → flag_divides new name (map tree_of rs) ≡ flag_divides old name (map tree_of rs)
flag_divides_stays old new name rs g h = ap (λ p. if is_fence name then p else None) (divides_stay old new rs g h)

flags_fit_stay : (old new : List ClType) (name : List ℕ) (rs : List Typed) → IsTable old → IsGrown old new → AreReady old rs → flags_fit new name (map tree_of rs) ≡ flags_fit old name (map tree_of rs)
flags_fit_stay old new name rs b g h = ap (λ f. not (is_fence name) || f) (flags_stay old new rs b g h)

-- ---- the call

module _ (old mid new : List ClType) (b : IsTable old) (c : IsTable mid) (g : IsGrown old mid) (u : IsGrown mid new) (after : Env) (left : Bool) (e : Expr) (name : List ℕ) (rs : List Typed) (k : IsKnownEnv old after) (h : AreReady old rs) (is : (out-Expr e).node ≡ node.Call name) (apart : judge old after left (node.Call name) (map operand_in rs) ≡ None) where
  since : (more : List ClType) → IsGrown new more → IsGrown old more
  since more m = grown_twice old new more (grown_twice old mid new g u) m

  still_apart : (more : List ClType) → IsGrown new more → judge more after left (node.Call name) (map operand_in rs) ≡ None
  still_apart more m = judged_later old new b (grown_twice old mid new g u) after left e rs k h (node.Call name) None more m apart

  operands_in : (more : List ClType) (env : Env) → AreTypedAs more env (first_left left (out-Expr e).node) (out-Expr e).args.items after rs → AreTypedAs more env false (out-Expr e).args.items after rs
  operands_in more env typed = flagged more env after left e (node.Call name) rs is typed

  still_divides : (p : Option Place) (more : List ClType) → IsGrown new more → flag_divides old name (map tree_of rs) ≡ p → flag_divides more name (map tree_of rs) ≡ p
  still_divides p more m d = flag_divides_stays old more name rs (since more m) h ∙ d

  pub flag_divided : (p : Place) → flag_divides old name (map tree_of rs) ≡ Some p → NodeStops new after left e rs (Out (at 334 p))
  flag_divided p d = λ more m env typed.
      flag_out env after left e (out-Expr e).place p name (out-Expr e).args.items (map tree_of rs) (map operand_in rs) (is_node e (node.Call name) is) (operands_in more env typed) (still_apart more m) (still_divides (Some p) more m d)

  pub call_stops : (s : Stop) → flag_divides old name (map tree_of rs) ≡ None → FoundStops new name (out-Expr e).place (map operand_in rs) s → NodeStops new after left e rs s
  call_stops NoMemory d stops = tt
  call_stops (Out o) d (inl f) = λ more m env typed.
      subst (Offends more env left e) (sym f.0)
      (no_function env after left e (out-Expr e).place name (out-Expr e).args.items (map tree_of rs) (map operand_in rs) (is_node e (node.Call name) is) (operands_in more env typed) (still_apart more m) f.1)
  call_stops (Out o) d (inr f) = λ more m env typed.
      subst (Offends more env left e) (sym f.code)
      (no_form env after left e (out-Expr e).place name (out-Expr e).args.items (map tree_of rs) (map operand_in rs) f.args (is_node e (node.Call name) is) (operands_in more env typed) (still_apart more m) (still_divides None more m d) (f.wanted more m) (f.unfit more m))

  still_fit : (f : Bool) (more : List ClType) → IsGrown new more → flags_fit old name (map tree_of rs) ≡ f → flags_fit more name (map tree_of rs) ≡ f
  still_fit f more m fit = flags_fit_stay old more name rs b (since more m) h ∙ fit

  pub call_unfit : (found : Found) → flag_divides old name (map tree_of rs) ≡ None → IsFoundAt mid name (map operand_in rs) found → flags_fit mid name (map tree_of rs) ≡ false → NodeStops new after left e rs (Out (at 330 (out-Expr e).place))
  call_unfit found d f fit = λ more m env typed.
      let m2 = grown_twice mid new more u m in
      no_flag env after left e (out-Expr e).place name (out-Expr e).args.items (map tree_of rs) (map operand_in rs) f.args found (is_node e (node.Call name) is) (operands_in more env typed) (still_apart more m) (still_divides None more m d) (f.wanted more m2) (f.means more m2)
      (still_fit false more m (sym (flags_fit_stay old mid name rs b g h) ∙ fit))

  pub call_asks : (found : Found) (m : Made) → IsFoundAt mid name (map operand_in rs) found → m ≡ value (wants_of found.params) (head.Builtin found.builtin) (want.Type found.result) → IsAsked mid m (length rs)
  call_asks found m f same = subst (λ z. IsAsked mid z (length rs)) (sym same)
      (arguments_asked mid c found.params found.result (head.Builtin found.builtin) (length rs) f.params f.result (f.each ∙ length-map rs operand_in))

  pub call_ok : (found : Found) (rule : Made) (r : Typed) → IsFoundAt mid name (map operand_in rs) found → flags_fit mid name (map tree_of rs) ≡ true → rule ≡ value (wants_of found.params) (head.Builtin found.builtin) (want.Type found.result) → IsMadeOf new rule (out-Expr e).place rs r → NodeIs new after left e rs r
  call_ok found rule r f fit same made = record {
    types = λ more m env typed.
        let m2 = grown_twice mid new more u m in
        built_in env after left e (out-Expr e).place name (out-Expr e).args.items (map tree_of rs) (map operand_in rs) f.args found r.tree r.operand (is_node e (node.Call name) is) (operands_in more env typed) (still_apart more m) (f.wanted more m2) (f.means more m2)
        (still_fit true more m (sym (flags_fit_stay old mid name rs b g h) ∙ fit))
        (subst (λ z. IsMade more z (out-Expr e).place (map tree_of rs) r.tree r.operand) same (made.made more m));
    ready = made.ready;
  }
