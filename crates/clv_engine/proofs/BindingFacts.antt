-- Launches bind to a kernel's module as they fit the kernel.
use Rattle.std.proofs.Common.{◌≡◌, ℕ, Bool, true, false, List, [], ◌∷◌, Option, Some, None, cond, refl, sym, ap, ◌∙◌, subst}
use Rattle.std.specs.Str.{bytes_eq}
use Rattle.std.proofs.lemmas.Slice.Eq.{bytes_eq-Decides}
use Rattle.launch_text.specs.Rules.{LoadedLaunch, Taken as Takes, IsLaunch, KeepsRules, IsLeastBroken}
use Rattle.spv_module.specs.declared.module.Inst.{Inst}
use Rattle.spv_module.specs.Options.{◌>>=◌}
use Rattle.spv_reflect.specs.declared.rows.KernelRow.{KernelRow}
use Rattle.spv_reflect.specs.declared.rows.Reflection.{Reflection}
use Rattle.spv_reflect.specs.Reflection.{rows_of}
use Rattle.spv_meaning.specs.Start.{Start}
use Rattle.vk_bind.specs.Binding.{taken_of, kernel_among, start_of, takes_in, BindsTo}
use Rattle.clv_engine.specs.declared.form.Kernel.{Kernel}
use Rattle.clv_engine.specs.Emitted.{body_of}
use Rattle.clv_engine.specs.Promises.{Fits, kernel_takes, takes_of, BindingAgrees}
use Rattle.clv_engine.proofs.FactsReflection.{rows_are}
use Rattle.clv_engine.proofs.Launches.{kernel_row, taken_found, start_for, binds_found}

-- what each step makes of the one before
abbrev taken_by_rows : Kernel → List ℕ → Option Reflection → Option Takes
taken_by_rows k name o = o >>= λ r. kernel_among name r.kernels >>= taken_of (body_of k)

abbrev taken_by_row : Kernel → Option KernelRow → Option Takes
taken_by_row k o = o >>= taken_of (body_of k)

either_row : (k : Kernel) (b : Bool) → taken_by_row k (cond b (Some (kernel_row k)) None) ≡ cond b (Some kernel_takes) None
either_row k true = taken_found k
either_row k false = refl

pub takes_same : (k : Kernel) (name : List ℕ) → takes_in (body_of k) name ≡ takes_of k name
takes_same k name = ap (taken_by_rows k name) (rows_are k) ∙ either_row k (bytes_eq (k.name ∷ []) name)

-- a launch that binds is one of a kernel that is there
abbrev Taken : Option (Takes × Start) → Option Takes → Type 0
Taken bound taken = (ps : Takes) (start : Start) → bound ≡ Some (ps, start) → taken ≡ Some ps

taken_none : Taken None None
taken_none ps start e = absurd (let c : ◌≡◌ {A = Option (Takes × Start)} None (Some (ps, start)) = e in cc)

taken_last : (r : Reflection) (row : KernelRow) (l : LoadedLaunch) (o : Option Takes) → Taken (o >>= λ ps. Some (ps, start_of r row l)) o
taken_last r row l None ps start e = taken_none ps start e
taken_last r row l (Some qs) ps start e = let c : ◌≡◌ {A = Takes × Start} (qs, start_of r row l) (ps, start) = cc in ap (λ (q : Takes × Start). Some q.0) c

taken_row : (body : List Inst) (r : Reflection) (l : LoadedLaunch) (o : Option KernelRow) → Taken (o >>= λ row. taken_of body row >>= λ ps. Some (ps, start_of r row l)) (o >>= taken_of body)
taken_row body r l None = taken_none
taken_row body r l (Some row) = taken_last r row l (taken_of body row)

taken_rows : (body : List Inst) (l : LoadedLaunch) (o : Option Reflection) → Taken (o >>= λ r. kernel_among l.kernel r.kernels >>= λ row. taken_of body row >>= λ ps. Some (ps, start_of r row l)) (o >>= λ r. kernel_among l.kernel r.kernels >>= taken_of body)
taken_rows body l None = taken_none
taken_rows body l (Some r) = taken_row body r l (kernel_among l.kernel r.kernels)

pub bound_taken : (body : List Inst) (l : LoadedLaunch) (start : Start) (b : BindsTo body l start) → takes_in body l.kernel ≡ Some b.taken
bound_taken body l start b = taken_rows body l (rows_of body) b.taken start b.binding

-- what a kernel takes, and that it's named
record IsTaken (k : Kernel) (name : List ℕ) (ps : Takes) : Type 0 where
  named : name ≡ k.name ∷ []
  takes : ps ≡ kernel_takes

taken_if : (k : Kernel) (name : List ℕ) (ps : Takes) (b : Bool) → bytes_eq (k.name ∷ []) name ≡ b → cond b (Some kernel_takes) None ≡ Some ps → IsTaken k name ps
taken_if k name ps true same e = record { named = sym ((bytes_eq-Decides (k.name ∷ []) name).0 same); takes = cc }
taken_if k name ps false same e = absurd (let c : ◌≡◌ {A = Option Takes} None (Some ps) = e in cc)

is_taken : (k : Kernel) (name : List ℕ) (ps : Takes) → takes_of k name ≡ Some ps → IsTaken k name ps
is_taken k name ps e = taken_if k name ps (bytes_eq (k.name ∷ []) name) refl e

fits_bound : (k : Kernel) (l : LoadedLaunch) (start : Start) → IsLaunch l → BindsTo (body_of k) l start → Fits k l
fits_bound k l start launch b =
    let t = is_taken k l.kernel b.taken (sym (takes_same k l.kernel) ∙ bound_taken (body_of k) l start b) in
    record { launch = launch; kernel = t.named; rules = subst (λ ps. KeepsRules ps l) t.takes b.rules }

pub binding_agrees : (k : Kernel) → BindingAgrees (body_of k) k
binding_agrees k = record {
  binds = λ l f. (start_for k l, binds_found k l f);
  fits = fits_bound k;
  breaks = λ l r broken. subst (λ o. IsLeastBroken l o r) (sym (takes_same k l.kernel)) broken;
  is_broken = λ l r broken. subst (λ o. IsLeastBroken l o r) (takes_same k l.kernel) broken;
}
