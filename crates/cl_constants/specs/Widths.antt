-- The widths of integer types.
use Rattle.std.specs.Prelude.{Bool}
use Rattle.cl_types.specs.Layout.{is_width}
use Rattle.cl_tree.specs.declared.shape.Shape.{Shape}
use Rattle.cl_tree.specs.Constants.{gentype_in}

-- Its integers have 8, 16, 32 or 64 bits. So have those of each shape of a table's type.
abbrev pub has_width : Shape → Bool
has_width s = is_width (gentype_in s).bits
