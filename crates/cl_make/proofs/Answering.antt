-- What the calls answer, step by step.
use Rattle.std.specs.Global.{Vec}
use Rattle.std.proofs.Common.{◌≡◌, ℕ, zero, suc, ◌+◌, ◌%◌, ◌^◌, ◌<◌, List, [], ◌∷◌, ◌++◌, length, take, map, refl, sym, ap, ◌∙◌, subst, arith, append_assoc, append-nil, Bool, Some, None, slice_get, Result, Ok, Err, IfOk, take_all}
use Rattle.std.proofs.lemmas.List.Elements.{All-head, All-tail}
use Rattle.clv_num.specs.declared.Bits.{Bits}
use Rattle.clv_place.specs.declared.place.Place.{Place}
use Rattle.clv_place.specs.declared.stop.NoMemory.{NoMemory}
use Rattle.cl_types.specs.declared.space.Space.{Space}
use Rattle.cl_types.specs.declared.types.ClType.{ClType}
use Rattle.cl_types.specs.declared.types.ClType.TheVariants as ty
use Rattle.cl_types.specs.declared.types.TypeId.{TypeId}
use Rattle.cl_types.specs.Table.{IsTable}
use Rattle.cl_builtins.specs.declared.kind.Gentype.{Gentype}
use Rattle.cl_builtins.specs.Found.{IsKnown, IsGrown}
use Rattle.cl_builtins.specs.Kinds.{integer_in}
use Rattle.cl_builtins.specs.Tables.{IsAt}
use Rattle.cl_builtins.proofs.Growth.{grown_same, grown_twice, grown_known, grown_get, at_known}
use Rattle.cl_tree.specs.declared.shape.Shape.{Shape}
use Rattle.cl_tree.specs.declared.shape.Shape.TheVariants as shape
use Rattle.cl_tree.specs.declared.expression.TExpr.{TExpr}
use Rattle.cl_tree.specs.declared.expression.TNode.TheVariants as tnode
use Rattle.cl_tree.specs.declared.expression.TNode.TheViews.{out-TExpr}
use Rattle.cl_tree.specs.Shapes.{vector_shape, shape_in, shape_of}
use Rattle.cl_rules.specs.declared.rule.Head.{Head}
use Rattle.cl_rules.specs.declared.rule.Made.{Made}
use Rattle.cl_rules.specs.declared.rule.Operand.{Operand}
use Rattle.cl_rules.specs.declared.rule.Want.{Want}
use Rattle.cl_rules.specs.declared.rule.Want.TheVariants as want
use Rattle.cl_scope.specs.declared.scope.Declared.{Declared}
use Rattle.cl_make.specs.declared.typed.Typed.{Typed}
use Rattle.cl_make.specs.Building.{IsTyped, IsFitted, as_it_is, by_node, IsConverted, unasked, fitting, converted, AreConverted, none, more, node_of, operand_of, value_of, operand_named}
use Rattle.cl_make.specs.Answered.{IsGiven, IsOwnOr, IsConvertedOf, AllConverted, IsMadeOf, IsNumberOf, IsNamedOf}
use Rattle.cl_make.specs.Ready.{From, Grows, IsReady, AreReady, IsStable, AreStable, tree_of}
use Rattle.cl_make.specs.Wanted.{IsWanted, by_number, by_shape, IsAskable, IsGivable}
use Rattle.cl_make.proofs.Growing.{none_some, some_same, shape_stays, grows_twice, grows_itself}
use Rattle.cl_make.proofs.Trees.{root_is, made_stable, number_stable, ready_stable, fitted_stable, stable_stays, all_stable_stay}

same_id : (a b : TypeId) → a.0 ≡ b.0 → a ≡ b
same_id a b e i = record { 0 = e i }

-- ---- types

-- a type of the table, and a type of this shape, are so in each longer table
pub known_given : (cs : List ClType) (t : TypeId) → IsKnown cs t → IsGiven cs (want.Type t) t
known_given cs t k = λ later g. by_number t (grown_known cs later t g k)

pub givable_given : (cs : List ClType) (w : Want) (t : TypeId) → w ≡ want.Type t → IsGivable cs w → IsGiven cs w t
givable_given cs w t e h = subst (λ z. IsGiven cs z t) (sym e) (known_given cs t (subst (IsGivable cs) e h))

pub askable_given : (cs : List ClType) (w : Want) (t : TypeId) → w ≡ want.Type t → IsAskable cs w → IsGiven cs w t
askable_given cs w t e h = subst (λ z. IsGiven cs z t) (sym e) (known_given cs t (subst (IsAskable cs) e h))

pub askable_own : (cs : List ClType) (w : Want) (own t : TypeId) → w ≡ want.Type t → IsAskable cs w → IsOwnOr cs w own t
askable_own cs w own t e h = subst (λ z. IsOwnOr cs z own t) (sym e) (known_given cs t (subst (IsAskable cs) e h))

pub of_given : (cs : List ClType) (w : Want) (s : Shape) (t : TypeId) → w ≡ want.Of s → IsGiven cs (want.Of s) t → IsGiven cs w t
of_given cs w s t e h = subst (λ z. IsGiven cs z t) (sym e) h

shaped_given : (cs : List ClType) (s : Shape) (t : TypeId) → IsTable cs → IsKnown cs t → shape_of cs t ≡ s → IsGiven cs (want.Of s) t
shaped_given cs s t b k e = λ later g. by_shape s t (grown_known cs later t g k) (shape_stays cs later t b g k ∙ e)

at_given : (cs : List ClType) (c : ClType) (s : Shape) (t : TypeId) → IsTable cs → IsAt cs c t → shape_in cs (Some c) ≡ s → IsGiven cs (want.Of s) t
at_given cs c s t b e f = shaped_given cs s t b (at_known cs c t e) (ap (shape_in cs) e ∙ f)

pub void_given : (cs : List ClType) (s : Shape) (r : Result TypeId NoMemory) → s ≡ shape.Void → IsTable cs → IfOk r (IsAt cs ty.Void) → IfOk r (IsGiven cs (want.Of s))
void_given cs s (Ok t) e b h = at_given cs ty.Void s t b h (sym e)
void_given cs s (Err x) e b h = h

pub bool_given : (cs : List ClType) (s : Shape) (r : Result TypeId NoMemory) → s ≡ shape.Bool → IsTable cs → IfOk r (IsAt cs ty.Bool) → IfOk r (IsGiven cs (want.Of s))
bool_given cs s (Ok t) e b h = at_given cs ty.Bool s t b h (sym e)
bool_given cs s (Err x) e b h = h

pub pointer_given : (cs : List ClType) (s : Shape) (space : Space) (to : TypeId) (readonly restricted : Bool) (r : Result TypeId NoMemory) → s ≡ shape.Pointer space to readonly restricted → IsTable cs → IfOk r (IsAt cs (ty.Pointer space to readonly restricted)) → IfOk r (IsGiven cs (want.Of s))
pointer_given cs s space to readonly restricted (Ok t) e b h = at_given cs (ty.Pointer space to readonly restricted) s t b h (sym e)
pointer_given cs s space to readonly restricted (Err x) e b h = h

pub scalar_given : (cs : List ClType) (g : Gentype) (t : TypeId) → IsTable cs → g.count ≡ 1 → IsAt cs (ty.Int g.bits g.signed) t → IsGiven cs (want.Of (shape.Integers g)) t
scalar_given cs g t b n e = at_given cs (ty.Int g.bits g.signed) (shape.Integers g) t b e (λ i. shape.Integers (record { bits = g.bits; signed = g.signed; count = sym n i }))

vector_at_given : (mid new : List ClType) (g : Gentype) (elem t : TypeId) → IsTable new → IsAt mid (ty.Int g.bits g.signed) elem → IsGrown mid new → IsAt new (ty.Vector elem g.count) t → IsGiven new (want.Of (shape.Integers g)) t
vector_at_given mid new g elem t b e h f =
    at_given new (ty.Vector elem g.count) (shape.Integers g) t b f (ap (λ o. vector_shape g.count (integer_in o)) (grown_get mid new elem.0 h (at_known mid (ty.Int g.bits g.signed) elem e) ∙ e))

pub vector_given : (mid new : List ClType) (g : Gentype) (elem : TypeId) (r : Result TypeId NoMemory) → IsTable new → IsAt mid (ty.Int g.bits g.signed) elem → IsGrown mid new → IfOk r (IsAt new (ty.Vector elem g.count)) → IfOk r (IsGiven new (want.Of (shape.Integers g)))
vector_given mid new g elem (Ok t) b e h f = vector_at_given mid new g elem t b e h f
vector_given mid new g elem (Err x) b e h f = f

wanted_known : (cs : List ClType) (w : Want) (t : TypeId) → IsWanted cs w t → IsKnown cs t
wanted_known cs w t (by_number u k) = k
wanted_known cs w t (by_shape s u k e) = k

pub given_known : (cs : List ClType) (w : Want) (t : TypeId) → IsGiven cs w t → IsKnown cs t
given_known cs w t h = wanted_known cs w t (h cs (grown_same cs cs refl))

-- ---- conversions

pub as_it_was : (ty : TypeId) (t : TExpr) → (out-TExpr t).ty.0 ≡ ty.0 → IsFitted ty t t
as_it_was ty t e = as_it_is t (same_id (out-TExpr t).ty ty e)

pub by_conversion : (ty : TypeId) (t u : TExpr) (args : Vec TExpr) → ((out-TExpr t).ty.0 ≡ ty.0 → ⊥) → args.items ≡ t ∷ [] → IsTyped u ty (out-TExpr t).place (tnode.Convert args) → IsFitted ty t u
by_conversion ty t u args n e h = by_node t u (λ e. n (ap (λ x. x.0) e)) (record { args = args; has = e; is = h })

fitted_converted : (cs : List ClType) (w : Want) (ty : TypeId) (t u : TExpr) → IsWanted cs w ty → IsFitted ty t u → IsConverted cs w t u
fitted_converted cs w ty t u h (as_it_is v e) = fitting w v (subst (IsWanted cs w) (sym e) h)
fitted_converted cs w ty t u h (by_node v x e n) = converted w ty v x h e n

fitted_convert : (cs : List ClType) (w : Want) (ty : TypeId) (t u : TExpr) → IsTable cs → IsGiven cs w ty → IsStable cs t → IsFitted ty t u → IsConvertedOf cs w t u
fitted_convert cs w ty t u b h s f = record {
  converts = λ later g. fitted_converted later w ty t u (h later g) f;
  stable = fitted_stable cs ty t u b (given_known cs w ty h) s f;
}

pub own_converted : (cs : List ClType) (w : Want) (r : Typed) → w ≡ want.Own → IsReady cs r → IsConvertedOf cs w r.tree r.tree
own_converted cs w r e h = subst (λ z. IsConvertedOf cs z r.tree r.tree) (sym e) (record { converts = λ later g. unasked r.tree; stable = ready_stable cs r h })

-- the operand was ready before the type that is wanted came
pub all_fitted : (old new : List ClType) (w : Want) (ty : TypeId) (r : Typed) (res : Result TExpr NoMemory) → IsTable new → IsGrown old new → IsGiven new w ty → IsReady old r → IfOk res (IsFitted ty r.tree) → IfOk res (IsConvertedOf new w r.tree)
all_fitted old new w ty r (Ok u) b g h i f = fitted_convert new w ty r.tree u b h (stable_stays old new r.tree g (ready_stable old r i)) f
all_fitted old new w ty r (Err x) b g h i f = f

-- ---- operands in a row

pub not_there : (ws : List Want) (i : ℕ) → i < length ws → None ≡ slice_get ws i → ⊥
not_there [] i h e = absurd (omega arith)
not_there (w ∷ ws) zero h e = none_some e
not_there (w ∷ ws) (suc i) h e = not_there ws i (omega arith) e

-- The row was read so far, and this is left of it.
pub record IsRead (whole read left : List Typed) (count : ℕ) : Type 0 where
  pub split : whole ≡ read ++ left
  pub counted : count ≡ length left

pub read_start : (whole left : List Typed) (count : ℕ) → left ≡ whole → count ≡ length whole → IsRead whole [] left count
read_start whole left count e n = record { split = sym e; counted = n ∙ ap length (sym e) }

pub read_more : (whole read left rest : List Typed) (x : Typed) (count n : ℕ) → IsRead whole read left count → left ≡ x ∷ rest → n + 1 ≡ count → IsRead whole (read ++ x ∷ []) rest n
read_more whole read left rest x count n r e f = record {
  split = r.split ∙ ap (λ z. read ++ z) e ∙ sym (append_assoc read (x ∷ []) rest);
  counted = let g = r.counted in omega (arith, g, f, ap length e);
}

none_left : (xs : List Typed) → 0 ≡ length xs → xs ≡ []
none_left [] e = refl
none_left (x ∷ xs) e = absurd (omega arith)

pub read_all : (whole read left : List Typed) (count : ℕ) → IsRead whole read left count → count ≡ 0 → whole ≡ read
read_all whole read left count r e = r.split ∙ ap (λ z. read ++ z) (none_left left (sym e ∙ r.counted)) ∙ append-nil read

length_both : (xs ys : List Typed) → length (xs ++ ys) ≡ length xs + length ys
length_both [] ys = omega arith
length_both (x ∷ xs) ys = let h = length_both xs ys in omega arith

pub next_low : (whole read left rest : List Typed) (x : Typed) (count at : ℕ) (ws : List Want) → IsRead whole read left count → left ≡ x ∷ rest → length ws ≡ length whole → at ≡ length read → at < length ws
next_low whole read left rest x count at ws r e l n = let a = ap length r.split in let b = length_both read left in let c = ap length e in omega (arith, a, b, c, l, n)

ready_behind : (cs : List ClType) (read rest : List Typed) (x : Typed) → AreReady cs (read ++ x ∷ rest) → IsReady cs x
ready_behind cs [] rest x h = All-head (IsReady cs) x rest h
ready_behind cs (y ∷ read) rest x h = ready_behind cs read rest x (All-tail (IsReady cs) y (read ++ x ∷ rest) h)

pub next_ready : (cs : List ClType) (whole read left rest : List Typed) (x : Typed) (count : ℕ) → IsRead whole read left count → left ≡ x ∷ rest → AreReady cs whole → IsReady cs x
next_ready cs whole read left rest x count r e h = ready_behind cs read rest x (subst (AreReady cs) (r.split ∙ ap (λ z. read ++ z) e) h)

-- the operands that were converted so far, of those that were read
pub record ConvertedSoFar (old now : List ClType) (ws : List Want) (read : List Typed) (us : List TExpr) : Type 0 where
  pub grows : Grows old now
  pub counted : length us ≡ length read
  pub converts : From now (λ later. AreConverted later (take (length read) ws) (map tree_of read) us)
  pub stable : AreStable now us

pub so_far_start : (cs : List ClType) (ws : List Want) (us : List TExpr) → IsTable cs → us ≡ [] → ConvertedSoFar cs cs ws [] us
so_far_start cs ws us b e = subst (ConvertedSoFar cs cs ws []) (sym e) (record { grows = grows_itself cs b; counted = refl; converts = λ later g. none; stable = tt })

taken_next : (ws : List Want) (k : ℕ) (w : Want) → slice_get ws k ≡ Some w → take (suc k) ws ≡ take k ws ++ w ∷ []
taken_next [] k w e = absurd (none_some e)
taken_next (v ∷ ws) zero w e = ap (λ z. z ∷ []) (some_same v w e)
taken_next (v ∷ ws) (suc k) w e = ap (λ z. v ∷ z) (taken_next ws k w e)

length_next : (read : List Typed) (x : Typed) → length (read ++ x ∷ []) ≡ suc (length read)
length_next [] x = refl
length_next (y ∷ read) x = ap suc (length_next read x)

lengths_next : (us : List TExpr) (u : TExpr) → length (us ++ u ∷ []) ≡ suc (length us)
lengths_next [] u = refl
lengths_next (v ∷ us) u = ap suc (lengths_next us u)

trees_next : (read : List Typed) (x : Typed) → map tree_of (read ++ x ∷ []) ≡ map tree_of read ++ x.tree ∷ []
trees_next [] x = refl
trees_next (y ∷ read) x = ap (λ z. y.tree ∷ z) (trees_next read x)

converted_next : (cs : List ClType) (w : Want) (t u : TExpr) (ws : List Want) (ts us : List TExpr) → AreConverted cs ws ts us → IsConverted cs w t u → AreConverted cs (ws ++ w ∷ []) (ts ++ t ∷ []) (us ++ u ∷ [])
converted_next cs w t u _ _ _ none h = more w [] t u [] [] h none
converted_next cs w t u _ _ _ (more v vs x y xs ys i r) h = more v (vs ++ w ∷ []) x y (xs ++ t ∷ []) (ys ++ u ∷ []) i (converted_next cs w t u vs xs ys r h)

stable_next : (cs : List ClType) (us : List TExpr) (u : TExpr) → AreStable cs us → IsStable cs u → AreStable cs (us ++ u ∷ [])
stable_next cs [] u h s = (s, tt)
stable_next cs (v ∷ us) u h s = (h.0, stable_next cs us u h.1 s)

pub so_far_more : (old now new : List ClType) (ws : List Want) (read : List Typed) (x : Typed) (us all : List TExpr) (u : TExpr) (at : ℕ) (w : Want) → ConvertedSoFar old now ws read us → Grows now new → at ≡ length read → slice_get ws at ≡ Some w → IsConvertedOf new w x.tree u → all ≡ us ++ u ∷ [] → ConvertedSoFar old new ws (read ++ x ∷ []) all
so_far_more old now new ws read x us all u at w s g n e c f = subst (ConvertedSoFar old new ws (read ++ x ∷ [])) (sym f) (record {
  grows = grows_twice old now new s.grows g;
  counted = lengths_next us u ∙ ap suc s.counted ∙ sym (length_next read x);
  converts = λ m h.
      subst (λ z. AreConverted m z (map tree_of (read ++ x ∷ [])) (us ++ u ∷ [])) (sym (ap (λ k. take k ws) (length_next read x) ∙ taken_next ws (length read) w (ap (slice_get ws) (sym n) ∙ e)))
      (subst (λ z. AreConverted m (take (length read) ws ++ w ∷ []) z (us ++ u ∷ [])) (sym (trees_next read x))
      (converted_next m w x.tree u (take (length read) ws) (map tree_of read) us (s.converts m (grown_twice now new m g.grown h)) (c.converts m h)));
  stable = stable_next new us u (all_stable_stay now new us g.grown s.stable) c.stable;
})

pub so_far_all : (old now : List ClType) (ws : List Want) (whole read : List Typed) (us : List TExpr) → ConvertedSoFar old now ws read us → whole ≡ read → length ws ≡ length whole → AllConverted now ws whole us
so_far_all old now ws whole read us s e l = record {
  converts = λ m g. subst (λ z. AreConverted m ws (map tree_of z) us) (sym e) (subst (λ z. AreConverted m z (map tree_of read) us) (take_all (length read) ws (let a = ap length e in omega (arith, a, l))) (s.converts m g));
  stable = s.stable;
}

-- ---- nodes

made_ready : (cs : List ClType) (t : TExpr) (o : Operand) (ty : TypeId) → IsKnown cs ty → (out-TExpr t).ty ≡ ty → o.facts.ty ≡ ty → o.shape ≡ shape_of cs ty → IsStable cs t → IsReady cs (record { tree = t; operand = o })
made_ready cs t o ty k e f s h = record {
  operand = record { known = subst (IsKnown cs) (sym f) k; shape = s ∙ ap (shape_of cs) (sym f) };
  root = root_is t cs ∙ e ∙ sym f;
  steady = h.steady;
}

pub made_of : (mid new : List ClType) (m : Made) (place : Place) (rs : List Typed) (args : Vec TExpr) (ty : TypeId) (t : TExpr) (o : Operand)
    → IsTable new → IsGrown mid new → AllConverted mid m.wants rs args.items → IsGiven new m.gives ty → IsTyped t ty place (node_of m.head args) → o ≡ operand_of new ty m
    → IsMadeOf new m place rs (record { tree = t; operand = o })
made_of mid new m place rs args ty t o b g c w n e =
    let k = given_known new m.gives ty w in
    record {
      made = λ later h. record {
        ty = ty;
        operands = args.items;
        gives = w later h;
        converts = c.converts later (grown_twice mid new later g h);
        is = record { args = args; has = refl; is = n };
        known = e ∙ ap (λ s. record (operand_of new ty m) { shape = s }) (sym (shape_stays new later ty b h k));
      };
      ready = made_ready new t o ty k n.has (ap (λ x. x.facts.ty) e) (ap (λ x. x.shape) e) (made_stable new t ty place m.head args b k (all_stable_stay mid new args.items g c.stable) n);
    }

pub number_of : (cs : List ClType) (g : Gentype) (n : ℕ) (place : Place) (bits : Bits) (ty : TypeId) (t : TExpr) (o : Operand)
    → IsTable cs → IsGiven cs (want.Of (shape.Integers g)) ty → bits.width ≡ g.bits → bits.value ≡ n % 2 ^ g.bits → IsTyped t ty place (tnode.Number bits) → o ≡ value_of cs ty
    → IsNumberOf cs g n place (record { tree = t; operand = o })
number_of cs g n place bits ty t o b w x y h e =
    let k = given_known cs (want.Of (shape.Integers g)) ty w in
    record {
      number = λ later f. record {
        ty = ty;
        bits = bits;
        gives = w later f;
        width = x;
        pattern = y;
        is = h;
        known = e ∙ ap (λ s. record (value_of cs ty) { shape = s }) (sym (shape_stays cs later ty b f k));
      };
      ready = made_ready cs t o ty k h.has (ap (λ x. x.facts.ty) e) (ap (λ x. x.shape) e) (number_stable cs t ty place bits k h);
    }

pub named_of : (cs : List ClType) (d : Declared) (h : Head) (place : Place) (args : Vec TExpr) (t : TExpr) (o : Operand)
    → IsTable cs → IsKnown cs d.ty → args.items ≡ [] → IsTyped t d.ty place (node_of h args) → o ≡ operand_named cs d
    → IsNamedOf cs d h place (record { tree = t; operand = o })
named_of cs d h place args t o b k a n e = record {
  node = record { args = args; has = a; is = n };
  operand = λ later f. e ∙ ap (λ s. record (operand_named cs d) { shape = s }) (sym (shape_stays cs later d.ty b f k));
  ready = made_ready cs t o d.ty k n.has (ap (λ x. x.facts.ty) e) (ap (λ x. x.shape) e) (made_stable cs t d.ty place h args b k (subst (AreStable cs) (sym a) tt) n);
}
