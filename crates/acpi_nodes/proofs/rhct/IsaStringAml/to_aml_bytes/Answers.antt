use Rattle.std.proofs.Common.{◌≡◌, ◌++◌, [], take, true, refl}
use Rattle.acpi_base.specs.declared.error.Error.TheVariants.{FieldWidth}
use Rattle.acpi_base.specs.Object.{whole}
use Rattle.acpi_base.proofs.Objects.{wrote_provided, refused_provided, refused_unprovided}
use Rattle.acpi_nodes.specs.Rhct.{is_isa_string, isa_string_bytes}
use Rattle.acpi_nodes.proofs.IsaStrings.{two_zeros, three_parts, short, long}
use Rattle.acpi_nodes.proofs.rhct.IsaStringAml.to_aml_bytes.Goals as goal

holds : (g : _) (c : goal.After-write_parts g) → is_isa_string c.args.self.now.text.now ≡ true
holds g c = short _ _ c.as_bytes-text.ensures.value c.if-text-gt65525.false

written : (g : _) (c : goal.After-write_parts g) → c.isa_string_head-head.result ++ (c.as_bytes-text.result.now ++ (take c.isa_string_end.result two_zeros ++ [])) ≡ isa_string_bytes c.args.self.now.text.now
written g c = three_parts _ _ _ _ c.as_bytes-text.ensures.value c.isa_string_head-head.ensures c.isa_string_end.ensures

pub returns-clause-ok : goal.returns-clause-ok
returns-clause-ok g c = wrote_provided _ FieldWidth (is_isa_string c.args.self.now.text.now) _ (isa_string_bytes c.args.self.now.text.now) _ _ (holds g c) (written g c) c.write_parts.ensures.ok

pub returns-clause-err : goal.returns-clause-err
returns-clause-err g c = refused_provided _ FieldWidth (is_isa_string c.args.self.now.text.now) _ (isa_string_bytes c.args.self.now.text.now) _ _ (holds g c) (written g c) c.write_parts.ensures.err

pub returns-then-text-gt65525-clause-err : goal.returns-then-text-gt65525-clause-err
returns-then-text-gt65525-clause-err g c = refused_unprovided FieldWidth FieldWidth (is_isa_string c.args.self.now.text.now) (whole (isa_string_bytes c.args.self.now.text.now)) _ (λ is. cc) (long _ _ c.as_bytes-text.ensures.value c.if-text-gt65525.true) refl
