-- A declaration begins with some token, and not with `else`.
use Rattle.std.proofs.Common.{◌≡◌, true, false, refl}
use Rattle.cl_grammar.specs.declared.terminal.Terminal.{Terminal}
use Rattle.cl_grammar.specs.declared.terminal.Terminal.TheVariants as t
use Rattle.cl_grammar.specs.DeclarationSymbols.{External, any_external, is_else}
use Rattle.cl_grammar.proofs.TerminalKinds.{kind, has}
use Rattle.cl_grammar.proofs.DeclarationKinds.{decl_begins, decl_firsts}
use Rattle.cl_parse.proofs.UnitSteps.{AllStart}

not_else : (k : Terminal) → has (decl_firsts External) (kind k) ≡ true → is_else k ≡ false
not_else t.Else h = absurd (let e : false ≡ true = h in cc)
not_else _ h = refl

pub all_start : AllStart
all_start declared u x = let b = decl_begins External u (any_external declared u x) in record { first = b.first; rest = b.rest; is = b.is; other = not_else b.first.terminal b.fits }
