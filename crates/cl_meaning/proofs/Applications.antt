-- Arguments of built-in functions, component by component.
use Rattle.std.proofs.Common.{◌≡◌, ℕ, suc, ◌+◌, ◌-◌, ◌*◌, ◌/◌, ◌%◌, ◌^◌, ◌<◌, ◌≤◌, Bool, true, false, true≢false, ◌&&◌, ◌||◌, List, [], ◌∷◌, ◌++◌, length, get_or, take, map, refl, sym, ap, ◌∙◌, subst, arith, append_assoc, add-one, eq-eqb}
use Rattle.std.specs.Prelude.{nat_eq, Result, IfOk, if◌then◌else◌}
use Rattle.std.specs.List.{list_all}
use Rattle.std.proofs.lemmas.Bool.{eqb-true}
use Rattle.std.proofs.lemmas.List.{append-nil, length-map, map_push, map_more, take_all}
use Rattle.std.proofs.lemmas.Nat.{shr-shr}
use Rattle.std.proofs.Math.Nat.{div-one, mul-add, mul-one}
use Rattle.clv_num.specs.declared.Bits.{Bits}
use Rattle.cl_types.specs.declared.builtin.Builtin.{Builtin}
use Rattle.cl_types.specs.Layout.{is_width}
use Rattle.cl_builtins.specs.declared.kind.Gentype.{Gentype}
use Rattle.cl_builtins.specs.Values.{count_of, takes_width, takes_widths, TakesWidths, value_of, width_in, widths, patterns, joined, parted, reread_of}
use Rattle.cl_types.specs.declared.builtin.Builtin.TheVariants as builtin
use Rattle.cl_common.specs.Operators.{each_from, component_at, component_value, cut, applied}
use Rattle.cl_meaning.proofs.Rereading.{bytes_bits}

-- ---- which arguments a function takes

all_same : (w : ℕ) (nss : List (List ℕ)) → list_all (nat_eq w) (map (λ n. w) nss) ≡ true
all_same w [] = refl
all_same w (ns ∷ nss) = ap (λ b. b && list_all (nat_eq w) (map (λ n. w) nss)) (eq-eqb w w refl) ∙ all_same w nss

pub takes_some : (f : Builtin) (w : ℕ) (nss : List (List ℕ)) → 0 < length nss → (nat_eq (length nss) (count_of f) && takes_width f w) ≡ takes_widths f (map (λ n. w) nss)
takes_some f w [] h = absurd (omega arith)
takes_some f w (ns ∷ nss) h =
    sym (ap (λ b. nat_eq (suc (length (map (λ n. w) nss))) (count_of f) && b && takes_width f w) (all_same w nss)
    ∙ ap (λ n. nat_eq (suc n) (count_of f) && true && takes_width f w) (length-map nss (λ n. w))
    ∙ by (nat_eq (suc (length nss)) (count_of f)) (takes_width f w))
  where
    by : (a t : Bool) → (a && true && t) ≡ (a && t)
    by true t = refl
    by false t = refl

pub takes_none : (f : Builtin) (w : ℕ) (nss : List (List ℕ)) → length nss ≡ 0 → false ≡ takes_widths f (map (λ n. w) nss)
takes_none f w [] h = refl
takes_none f w (ns ∷ nss) h = absurd (omega arith)

pub takes_true : (f : Builtin) (w : ℕ) (nss : List (List ℕ)) (t : Bool) → (length nss ≡ 0 → ⊥) → length nss ≡ count_of f → t ≡ takes_width f w → t ≡ takes_widths f (map (λ n. w) nss)
takes_true f w nss t some e is = is ∙ sym (ap (λ b. b && takes_width f w) (eq-eqb (length nss) (count_of f) e)) ∙ takes_some f w nss (by nss some)
  where
    by : (nss : List (List ℕ)) → (length nss ≡ 0 → ⊥) → 0 < length nss
    by [] h = absurd (h refl)
    by (ns ∷ nss) h = omega arith

const_map : (w k : ℕ) (nss : List (List ℕ)) → map (λ n. w) (map (component_at k) nss) ≡ map (λ n. w) nss
const_map w k [] = refl
const_map w k (ns ∷ nss) = ap (λ z. w ∷ z) (const_map w k nss)

pub not_taken : (f : Builtin) (from : Gentype) (k : ℕ) (nss : List (List ℕ)) (r : Bool) → r ≡ takes_widths f (map (λ n. from.bits) nss) → r ≡ false → 0 ≡ component_value f from (map (component_at k) nss)
not_taken f from k nss r is isnt =
    sym (ap (λ z. if takes_widths f z then value_of f from.bits from.signed (map (cut from.bits) (map (component_at k) nss)) else 0) (const_map from.bits k nss)
    ∙ ap (λ b. if b then value_of f from.bits from.signed (map (cut from.bits) (map (component_at k) nss)) else 0) (sym is ∙ isnt))

-- ---- the kth components

pub record ArgsTo (w k : ℕ) (nss : List (List ℕ)) (i : ℕ) (args : List Bits) : Type 0 where
  pub wide : widths args ≡ map (λ n. w) (take i nss)
  pub numbers : patterns args ≡ map (cut w) (map (component_at k) (take i nss))

pub args_begin : (w k : ℕ) (nss : List (List ℕ)) → ArgsTo w k nss 0 []
args_begin w k nss = record { wide = refl; numbers = refl }

twice : (w k : ℕ) (nss : List (List ℕ)) → map (λ ns. cut w (component_at k ns)) nss ≡ map (cut w) (map (component_at k) nss)
twice w k [] = refl
twice w k (ns ∷ nss) = ap (λ z. cut w (component_at k ns) ∷ z) (twice w k nss)

pub args_more : (w k : ℕ) (nss : List (List ℕ)) (i : ℕ) (ns : List ℕ) (b : Bits) (args new : List Bits) → ArgsTo w k nss i args → i < length nss → ns ≡ get_or nss i ns → b.width ≡ w → b.value ≡ component_at k ns % 2 ^ w → new ≡ args ++ b ∷ [] → ArgsTo w k nss (i + 1) new
args_more w k nss i ns b args new to h at wide value made = record {
  wide = ap widths made ∙ map_push (λ a. a.width) args b ∙ ap (λ z. z ++ b.width ∷ []) to.wide ∙ ap (λ z. map (λ n. w) (take i nss) ++ z ∷ []) wide ∙ sym (map_more (λ n. w) nss i ns h);
  numbers =
      ap patterns made ∙ map_push (λ a. a.value) args b ∙ ap (λ z. z ++ b.value ∷ []) (to.numbers ∙ sym (twice w k (take i nss)))
      ∙ ap (λ z. map (λ ms. cut w (component_at k ms)) (take i nss) ++ z ∷ []) (value ∙ ap (λ z. component_at k z % 2 ^ w) at)
      ∙ sym (map_more (λ ms. cut w (component_at k ms)) nss i ns h) ∙ twice w k (take (i + 1) nss);
}

pub args_take : (f : Builtin) (w k : ℕ) (nss : List (List ℕ)) (i : ℕ) (args : List Bits) (r : Bool) → ArgsTo w k nss i args → length nss ≤ i → r ≡ takes_widths f (map (λ n. w) nss) → r ≡ true → TakesWidths f args
args_take f w k nss i args r to h is it_is = ap (takes_widths f) (to.wide ∙ ap (map (λ n. w)) (take_all i nss h)) ∙ sym is ∙ it_is

first_width : (w : ℕ) (args : List Bits) (nss : List (List ℕ)) → widths args ≡ map (λ n. w) nss → 0 < length nss → width_in args ≡ w
first_width w args [] e h = absurd (omega arith)
first_width w [] (ns ∷ nss) e h = absurd (cc)
first_width w (a ∷ args) (ns ∷ nss) e h = cc

some_taken : (f : Builtin) (w : ℕ) (nss : List (List ℕ)) → takes_widths f (map (λ n. w) nss) ≡ true → 0 < length nss
some_taken f w [] e = absurd (true≢false (sym e))
some_taken f w (ns ∷ nss) e = omega arith

pub args_value : (f : Builtin) (from : Gentype) (k : ℕ) (nss : List (List ℕ)) (i : ℕ) (args : List Bits) (r : Bool) (v : ℕ) → ArgsTo from.bits k nss i args → length nss ≤ i → r ≡ takes_widths f (map (λ n. from.bits) nss) → r ≡ true → v ≡ value_of f (width_in args) from.signed (patterns args) → v ≡ component_value f from (map (component_at k) nss)
args_value f from k nss i args r v to h is it_is value =
    let whole : take i nss ≡ nss = take_all i nss h in
    let wide : widths args ≡ map (λ n. from.bits) nss = to.wide ∙ ap (map (λ n. from.bits)) whole in
    let taken : takes_widths f (map (λ n. from.bits) nss) ≡ true = sym is ∙ it_is in
    value
    ∙ ap (λ w. value_of f w from.signed (patterns args)) (first_width from.bits args nss wide (some_taken f from.bits nss taken))
    ∙ ap (value_of f from.bits from.signed) (to.numbers ∙ ap (λ z. map (cut from.bits) (map (component_at k) z)) whole)
    ∙ sym (ap (λ z. if takes_widths f z then value_of f from.bits from.signed (map (cut from.bits) (map (component_at k) nss)) else 0) (const_map from.bits k nss)
    ∙ ap (λ b. if b then value_of f from.bits from.signed (map (cut from.bits) (map (component_at k) nss)) else 0) taken)

pub ruleset taking = (takes_some, takes_none)

pub ruleset one_component = (not_taken, args_begin, args_more, args_take, args_value)

-- ---- all components

pub record ComponentsTo (f : Builtin) (from : Gentype) (nss : List (List ℕ)) (n k : ℕ) (made : List ℕ) : Type 0 where
  pub rest : made ++ each_from (λ i. component_value f from (map (component_at i) nss)) k (n - k) ≡ each_from (λ i. component_value f from (map (component_at i) nss)) 0 n

pub components_begin : (f : Builtin) (from : Gentype) (nss : List (List ℕ)) (n : ℕ) → ComponentsTo f from nss n 0 []
components_begin f from nss n =
    let e : n - 0 ≡ n = omega arith in
    record { rest = ap (each_from (λ i. component_value f from (map (component_at i) nss)) 0) e }

pub components_more : (f : Builtin) (from : Gentype) (nss : List (List ℕ)) (n k x : ℕ) (made new : List ℕ) → ComponentsTo f from nss n k made → k < n → x ≡ component_value f from (map (component_at k) nss) → new ≡ made ++ x ∷ [] → ComponentsTo f from nss n (k + 1) new
components_more f from nss n k x made new to h is e = record {
  rest =
      let g : ℕ → ℕ = (λ i. component_value f from (map (component_at i) nss)) in
      let less : n - k ≡ suc (n - (k + 1)) = omega arith in
      ap (λ z. z ++ each_from g (k + 1) (n - (k + 1))) e
      ∙ append_assoc made (x ∷ []) (each_from g (k + 1) (n - (k + 1)))
      ∙ ap (λ z. made ++ z ∷ each_from g (k + 1) (n - (k + 1))) is
      ∙ ap (λ z. made ++ g k ∷ each_from g z (n - (k + 1))) (add-one k)
      ∙ sym (ap (λ z. made ++ each_from g k z) less)
      ∙ to.rest;
}

pub components_end : (f : Builtin) (from : Gentype) (nss : List (List ℕ)) (n k : ℕ) (made : List ℕ) → ComponentsTo f from nss n k made → n ≤ k → made ≡ each_from (λ i. component_value f from (map (component_at i) nss)) 0 n
components_end f from nss n k made to h =
    let e : n - k ≡ 0 = omega arith in
    sym (append-nil made) ∙ sym (ap (λ z. made ++ each_from (λ i. component_value f from (map (component_at i) nss)) k z) e) ∙ to.rest

pub ruleset all_components = (components_begin, components_more, components_end)

-- without arguments
pub none_reread : (from to : Gentype) (nss : List (List ℕ)) (ns : List ℕ) → length nss < 1 → ns ≡ each_from (λ k. component_value builtin.As from (map (component_at k) nss)) 0 to.count → ns ≡ applied builtin.As from to nss
none_reread from to [] ns h e = e
none_reread from to (ms ∷ nss) ns h e = absurd (omega arith)

pub none_any : (from to : Gentype) (nss : List (List ℕ)) (ns : List ℕ) → length nss < 1 → ns ≡ each_from (λ k. component_value builtin.Any from (map (component_at k) nss)) 0 to.count → ns ≡ applied builtin.Any from to nss
none_any from to [] ns h e = e
none_any from to (ms ∷ nss) ns h e = absurd (omega arith)

pub none_all : (from to : Gentype) (nss : List (List ℕ)) (ns : List ℕ) → length nss < 1 → ns ≡ each_from (λ k. component_value builtin.All from (map (component_at k) nss)) 0 to.count → ns ≡ applied builtin.All from to nss
none_all from to [] ns h e = e
none_all from to (ms ∷ nss) ns h e = absurd (omega arith)

pub ruleset without_arguments = (none_reread, none_any, none_all)

-- any other function
elsewhere : (f : Builtin) (from to : Gentype) (nss : List (List ℕ)) → (f ≡ builtin.As → ⊥) → (f ≡ builtin.Any → ⊥) → (f ≡ builtin.All → ⊥) → each_from (λ k. component_value f from (map (component_at k) nss)) 0 to.count ≡ applied f from to nss
elsewhere builtin.GetWorkDim from to nss a b c = refl
elsewhere builtin.GetGlobalSize from to nss a b c = refl
elsewhere builtin.GetGlobalId from to nss a b c = refl
elsewhere builtin.GetLocalSize from to nss a b c = refl
elsewhere builtin.GetLocalId from to nss a b c = refl
elsewhere builtin.GetNumGroups from to nss a b c = refl
elsewhere builtin.GetGroupId from to nss a b c = refl
elsewhere builtin.GetGlobalOffset from to nss a b c = refl
elsewhere builtin.Abs from to nss a b c = refl
elsewhere builtin.AbsDiff from to nss a b c = refl
elsewhere builtin.AddSat from to nss a b c = refl
elsewhere builtin.SubSat from to nss a b c = refl
elsewhere builtin.MadSat from to nss a b c = refl
elsewhere builtin.Hadd from to nss a b c = refl
elsewhere builtin.Rhadd from to nss a b c = refl
elsewhere builtin.Min from to nss a b c = refl
elsewhere builtin.Max from to nss a b c = refl
elsewhere builtin.Clamp from to nss a b c = refl
elsewhere builtin.Clz from to nss a b c = refl
elsewhere builtin.Popcount from to nss a b c = refl
elsewhere builtin.MulHi from to nss a b c = refl
elsewhere builtin.MadHi from to nss a b c = refl
elsewhere builtin.Mul24 from to nss a b c = refl
elsewhere builtin.Mad24 from to nss a b c = refl
elsewhere builtin.Rotate from to nss a b c = refl
elsewhere builtin.Upsample from to nss a b c = refl
elsewhere (builtin.Convert bits signed sat) from to nss a b c = refl
elsewhere builtin.As from to nss a b c = absurd (a refl)
elsewhere (builtin.Select vector) from to nss a b c = refl
elsewhere builtin.Any from to nss a b c = absurd (b refl)
elsewhere builtin.All from to nss a b c = absurd (c refl)
elsewhere (builtin.Vload n) from to nss a b c = refl
elsewhere (builtin.Vstore n) from to nss a b c = refl
elsewhere builtin.Barrier from to nss a b c = refl
elsewhere builtin.MemFence from to nss a b c = refl
elsewhere builtin.ReadMemFence from to nss a b c = refl
elsewhere builtin.WriteMemFence from to nss a b c = refl
elsewhere builtin.AtomicAdd from to nss a b c = refl
elsewhere builtin.AtomicSub from to nss a b c = refl
elsewhere builtin.AtomicXchg from to nss a b c = refl
elsewhere builtin.AtomicMin from to nss a b c = refl
elsewhere builtin.AtomicMax from to nss a b c = refl
elsewhere builtin.AtomicAnd from to nss a b c = refl
elsewhere builtin.AtomicOr from to nss a b c = refl
elsewhere builtin.AtomicXor from to nss a b c = refl
elsewhere builtin.AtomicInc from to nss a b c = refl
elsewhere builtin.AtomicDec from to nss a b c = refl
elsewhere builtin.AtomicCmpxchg from to nss a b c = refl

pub other : {E : Type 0} (f : Builtin) (from to : Gentype) (nss : List (List ℕ)) (r : Result (List ℕ) E) → (f ≡ builtin.As → ⊥) → (f ≡ builtin.Any → ⊥) → (f ≡ builtin.All → ⊥) → IfOk r (λ ns. ns ≡ each_from (λ k. component_value f from (map (component_at k) nss)) 0 to.count) → IfOk r (λ ns. ns ≡ applied f from to nss)
other f from to nss r a b c h = subst (λ z. IfOk r (λ ns. ns ≡ z)) (elsewhere f from to nss a b c) h

-- ---- other widths

by_width : (P : ℕ → Type 0) (w : ℕ) → is_width w ≡ true → P 8 → P 16 → P 32 → P 64 → P w
by_width P w h p8 p16 p32 p64 = by (nat_eq w 8) (nat_eq w 16) (nat_eq w 32) (nat_eq w 64) refl refl refl refl h
  where
    by : (a b c d : Bool) → nat_eq w 8 ≡ a → nat_eq w 16 ≡ b → nat_eq w 32 ≡ c → nat_eq w 64 ≡ d → (a || b || c || d) ≡ true → P w
    by true b c d p q r s h = subst P (sym (eqb-true w 8 p)) p8
    by false true c d p q r s h = subst P (sym (eqb-true w 16 q)) p16
    by false false true d p q r s h = subst P (sym (eqb-true w 32 r)) p32
    by false false false true p q r s h = subst P (sym (eqb-true w 64 s)) p64
    by false false false false p q r s h = absurd (true≢false (sym h))

pub width_some : (w : ℕ) → is_width w ≡ true → 0 < w / 8
width_some w h = by_width (λ w. 0 < w / 8) w h (omega arith) (omega arith) (omega arith) (omega arith)

pub width_few : (w : ℕ) → is_width w ≡ true → w / 8 ≤ 8
width_few w h = by_width (λ w. w / 8 ≤ 8) w h (omega arith) (omega arith) (omega arith) (omega arith)

whole_bytes : (w : ℕ) → is_width w ≡ true → 8 * (w / 8) ≡ w
whole_bytes w h = by_width (λ w. 8 * (w / 8) ≡ w) w h refl refl refl refl

pub width_near : (k w : ℕ) → k < 2 ^ 8 → is_width w ≡ true → k * (w / 8) < 2 ^ 32
width_near k w few h = by_width (λ w. k * (w / 8) < 2 ^ 32) w h (omega arith) (omega arith) (omega arith) (omega arith)

pub record RereadTo (from to count : ℕ) (ns : List ℕ) (k : ℕ) (made : List ℕ) : Type 0 where
  pub rest : made ++ parted to (count - k) (joined from (map (cut from) ns) / 2 ^ (to * k)) ≡ reread_of from to count (map (cut from) ns)

pub reread_begin : (from to count : ℕ) (ns : List ℕ) → RereadTo from to count ns 0 []
reread_begin from to count ns =
    let e : count - 0 ≡ count = omega arith in
    let none : to * 0 ≡ 0 = omega arith in
    record { rest = ap (λ z. parted to z (joined from (map (cut from) ns) / 2 ^ (to * 0))) e ∙ ap (parted to count) (ap (λ z. joined from (map (cut from) ns) / 2 ^ z) none ∙ div-one (joined from (map (cut from) ns))) }

place_of : (k to : ℕ) → is_width to ≡ true → 8 * (k * (to / 8)) ≡ to * k
place_of k to h = by_width (λ w. 8 * (k * (w / 8)) ≡ w * k) to h (omega arith) (omega arith) (omega arith) (omega arith)

further : (to k : ℕ) → to * (k + 1) ≡ to * k + to
further to k = mul-add to k 1 ∙ ap (λ z. to * k + z) (mul-one to)

part_is : (from to k n : ℕ) (ns : List ℕ) → is_width from ≡ true → is_width to ≡ true → n ≡ joined (8 * (from / 8)) (map (cut (8 * (from / 8))) ns) / 256 ^ (k * (to / 8)) % 256 ^ (to / 8) → n ≡ joined from (map (cut from) ns) / 2 ^ (to * k) % 2 ^ to
part_is from to k n ns f t is =
    is
    ∙ ap (λ z. joined z (map (cut z) ns) / 256 ^ (k * (to / 8)) % 256 ^ (to / 8)) (whole_bytes from f)
    ∙ ap (λ z. joined from (map (cut from) ns) / z % 256 ^ (to / 8)) (bytes_bits (k * (to / 8)) ∙ ap (λ z. 2 ^ z) (place_of k to t))
    ∙ ap (λ z. joined from (map (cut from) ns) / 2 ^ (to * k) % z) (bytes_bits (to / 8) ∙ ap (λ z. 2 ^ z) (whole_bytes to t))

pub reread_more : (from to count k n : ℕ) (ns made new : List ℕ) → is_width from ≡ true → is_width to ≡ true → RereadTo from to count ns k made → k < count → n ≡ joined (8 * (from / 8)) (map (cut (8 * (from / 8))) ns) / 256 ^ (k * (to / 8)) % 256 ^ (to / 8) → new ≡ made ++ n ∷ [] → RereadTo from to count ns (k + 1) new
reread_more from to count k n ns made new f t so_far h is e = record {
  rest =
      let x : ℕ = joined from (map (cut from) ns) in
      let less : count - k ≡ suc (count - (k + 1)) = omega arith in
      ap (λ z. z ++ parted to (count - (k + 1)) (x / 2 ^ (to * (k + 1)))) e
      ∙ append_assoc made (n ∷ []) (parted to (count - (k + 1)) (x / 2 ^ (to * (k + 1))))
      ∙ ap (λ z. made ++ z ∷ parted to (count - (k + 1)) (x / 2 ^ (to * (k + 1)))) (part_is from to k n ns f t is)
      ∙ ap (λ z. made ++ x / 2 ^ (to * k) % 2 ^ to ∷ parted to (count - (k + 1)) z) (ap (λ z. x / 2 ^ z) (further to k) ∙ sym (shr-shr x (to * k) to))
      ∙ sym (ap (λ z. made ++ parted to z (x / 2 ^ (to * k))) less)
      ∙ so_far.rest;
}

pub reread_end : (from to count k : ℕ) (ns made : List ℕ) → RereadTo from to count ns k made → count ≤ k → made ≡ reread_of from to count (map (cut from) ns)
reread_end from to count k ns made so_far h =
    let e : count - k ≡ 0 = omega arith in
    sym (append-nil made) ∙ sym (ap (λ z. made ++ parted to z (joined from (map (cut from) ns) / 2 ^ (to * k))) e) ∙ so_far.rest

pub ruleset rereading = (width_some, width_few, width_near, reread_begin, reread_more, reread_end)
