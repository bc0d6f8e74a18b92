use Rattle.std.proofs.Common.{◌≡◌, ◌∙◌, ap, arith, sym}
use Rattle.std.specs.Prelude.{slice_index}
use Rattle.floor_port.specs.Packer.{PackerRecord}
use Rattle.floor_port.proofs.BootLemmas.{nothing_heard}
use Rattle.floor_port.proofs.packer.Packer.note_boot.Goals as goal

-- the boot at the place of a boot is not greater
pub returns-then-boot_at-boot_of : goal.returns-then-boot_at-boot_of
returns-then-boot_at-boot_of c =
    let most = c.if-boot_at-boot_of.true in
    let there = c.boot_of.ensures in
    let same = ap (λ (p : PackerRecord). slice_index p.heard c.args.member) c.self.view_is in
    nothing_heard c.args.self.now c.args.member c.args.bytes.now c.boot_at.result c.boot_at.ensures (omega (arith, most, there, same))
