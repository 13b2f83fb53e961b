-- The measures of types: bytes, alignment, scalars, depth. Types nest no deeper than there are types.
use Rattle.std.specs.Prelude.{ℕ, ◌+◌, ◌*◌, ◌-◌, ◌/◌, ◌==◌, max, if◌then◌else◌, List, [], ◌∷◌, map, sum, zip, Option, Some, None}
use Rattle.spv_module.specs.declared.op.TheConstants as op
use Rattle.spv_module.specs.declared.enumerant.decoration.TheConstants as decoration
use Rattle.spv_types_rules.specs.Lines.{Line, Whole, has_op, has_op_among, first, defined, parts_by, length_of, decorations, member_decorations}

abbrev pub most : List ℕ → ℕ
most [] = 0
most (n ∷ ns) = max n (most ns)

-- up to a multiple
abbrev pub round_up : ℕ → ℕ → ℕ
round_up n to = ((n + (to - 1)) / to) * to

-- a vector of three takes the room of one of four
abbrev pub lanes : Line → ℕ
lanes l = if first l.numbers == 3 then 4 else first l.numbers

-- a measure of a type, by those of its parts
abbrev pub measure_by : (Line → List ℕ → ℕ) → Option Line → List ℕ → ℕ
measure_by measure None ns = 0
measure_by measure (Some l) ns = measure l ns

abbrev pub measured : (Line → List ℕ → ℕ) → Whole → List Line → ℕ → ℕ
measured measure w [] t = 0
measured measure w (_ ∷ fuel) t = measure_by measure (defined w t) (map (measured measure w fuel) (parts_by (defined w t)))

-- ---- alignment

abbrev pub alignment_by : Line → List ℕ → ℕ
alignment_by l ns =
    if has_op op.TYPE_BOOL l then 1 else (
    if has_op op.TYPE_INT l then first l.numbers / 8 else (
    if has_op op.TYPE_VECTOR l then lanes l * first ns else most ns))

abbrev pub alignment : Whole → ℕ → ℕ
alignment w t = measured alignment_by w w.types t

-- ---- bytes

-- where a member begins: at its Offset, or where there is none behind the member before it
abbrev pub offset_by : List (List ℕ) → ℕ → ℕ → ℕ
offset_by [] end align = round_up end align
offset_by (literals ∷ _) end align = first literals

-- the end of the farthest member, of those from the nth on with their sizes
abbrev pub end_of : Whole → ℕ → ℕ → ℕ → ℕ → List (ℕ × ℕ) → ℕ
end_of w struct n end far [] = far
end_of w struct n end far ((t, size) ∷ ms) =
    let at = offset_by (member_decorations w struct n decoration.OFFSET) end (alignment w t) in
    end_of w struct (n + 1) (at + size) (max far (at + size)) ms

-- from one element to the next: the ArrayStride, or the element's size where there is none
abbrev pub stride_by : List (List ℕ) → ℕ → ℕ
stride_by [] size = size
stride_by (literals ∷ _) size = first literals

abbrev pub size_by : Whole → ℕ → Line → List ℕ → ℕ
size_by w t l ns =
    if has_op op.TYPE_BOOL l then 1 else (
    if has_op op.TYPE_INT l then first l.numbers / 8 else (
    if has_op op.TYPE_VECTOR l then lanes l * first ns else (
    if has_op op.TYPE_ARRAY l then length_of w l * stride_by (decorations w t decoration.ARRAY_STRIDE) (first ns) else (
    if has_op op.TYPE_STRUCT l then round_up (end_of w t 0 0 0 (zip l.ids ns)) (alignment w t) else 0))))

abbrev pub size_in : Whole → List Line → ℕ → ℕ
size_in w [] t = 0
size_in w (_ ∷ fuel) t = measure_by (size_by w t) (defined w t) (map (size_in w fuel) (parts_by (defined w t)))

-- the bytes of a type; a runtime array has none of its own
abbrev pub size : Whole → ℕ → ℕ
size w t = size_in w w.types t

-- ---- scalars and depth

abbrev pub scalars_by : Whole → Line → List ℕ → ℕ
scalars_by w l ns =
    if has_op_among (op.TYPE_BOOL ∷ op.TYPE_INT ∷ []) l then 1 else (
    if has_op op.TYPE_VECTOR l then first l.numbers else (
    if has_op op.TYPE_ARRAY l then length_of w l * first ns else (
    if has_op op.TYPE_STRUCT l then sum ns else 0)))

-- the scalars of a type, those of runtime arrays aside
abbrev pub scalars : Whole → ℕ → ℕ
scalars w t = measured (scalars_by w) w w.types t

abbrev pub depth_by : Line → List ℕ → ℕ
depth_by l ns = 1 + most ns

-- how deep a type nests
abbrev pub depth : Whole → ℕ → ℕ
depth w t = measured depth_by w w.types t
