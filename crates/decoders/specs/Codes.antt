-- The code tables of document 01, "Identity": what each code of a field stands for. A code outside its table is refused by 3, with the
-- field's number and the code. Assumes nothing.
use Rattle.std.specs.Prelude.{ℕ, ◌/◌, ◌%◌, List, [], ◌∷◌, eqb, Ok, Err}
use Rattle.reading.specs.Pick.{pick}
use Rattle.reading.specs.declared.Refusal.TheVariants.{NotDdr5, UnknownEnum}
use Rattle.reading.specs.Refusal.{Answer}
use Rattle.decoders.specs.declared.identity.SpdRevision.{SpdRevision}
use Rattle.decoders.specs.declared.identity.DeviceType.{DeviceType}
use Rattle.decoders.specs.declared.identity.DeviceType.TheVariants.{Ddr3, Ddr4, Ddr5, Lpddr5}
use Rattle.decoders.specs.declared.identity.ModuleType.{ModuleType}
use Rattle.decoders.specs.declared.identity.ModuleType.TheVariants.{Rdimm, Udimm, Sodimm, Lrdimm, Cudimm, Csoudimm, Mrdimm, Camm2, Ddimm, SolderDown}
use Rattle.decoders.specs.declared.identity.DensityPerDie.{DensityPerDie}
use Rattle.decoders.specs.declared.identity.DensityPerDie.TheVariants.{Gb4, Gb8, Gb12, Gb16, Gb24, Gb32, Gb48, Gb64}
use Rattle.decoders.specs.declared.identity.Package.{Package}
use Rattle.decoders.specs.declared.identity.PackageType.{PackageType}
use Rattle.decoders.specs.declared.identity.PackageType.TheVariants.{Monolithic, DualDie, ThreeDs}
use Rattle.decoders.specs.declared.identity.IoWidth.{IoWidth}
use Rattle.decoders.specs.declared.identity.IoWidth.TheVariants.{X4, X8, X16, X32}
use Rattle.decoders.specs.declared.identity.BankGroups.{BankGroups}
use Rattle.decoders.specs.declared.identity.BankGroups.TheVariants as groups
use Rattle.decoders.specs.declared.identity.BanksPerBankGroup.{BanksPerBankGroup}
use Rattle.decoders.specs.declared.identity.BanksPerBankGroup.TheVariants as banks

-- a field's table, as codes with what they stand for; any other code is refused by 3, with the field's number and the code
abbrev pub meant : {A : Type 0} (field : ℕ) → List (ℕ × A) → (code : ℕ) → Answer A
meant field [] code = Err (UnknownEnum field code)
meant field ((k, x) ∷ rows) code = pick (eqb code k) (Ok x) (meant field rows code)

-- field 1, byte 0, bits 6-4: SPD bytes
abbrev pub size_table : List (ℕ × ℕ)
size_table = (1, 256) ∷ (2, 512) ∷ (3, 1024) ∷ (4, 2048) ∷ []

unfoldable pub size_of : ℕ → Answer ℕ
size_of code = meant 1 size_table code

-- byte 1: major in the high four bits
abbrev pub revision_of : ℕ → SpdRevision
revision_of byte1 = record { major = byte1 / 16; minor = byte1 % 16 }

-- byte 2: 0x12 is DDR5; any other is refused by 2, with the byte
unfoldable pub device_of : ℕ → Answer DeviceType
device_of byte2 = pick (eqb byte2 0x12) (Ok Ddr5) (Err (NotDdr5 byte2))

-- field 2, byte 3, bits 3-0: module type
abbrev pub module_table : List (ℕ × ModuleType)
module_table =
    (1, Rdimm) ∷ (2, Udimm) ∷ (3, Sodimm) ∷ (4, Lrdimm) ∷ (5, Cudimm) ∷ (6, Csoudimm) ∷ (7, Mrdimm) ∷ (8, Camm2)
    ∷ (10, Ddimm) ∷ (11, SolderDown) ∷ []

unfoldable pub module_of : ℕ → Answer ModuleType
module_of code = meant 2 module_table code

-- field 3, byte 4, bits 4-0: gigabits per die
abbrev pub density_table : List (ℕ × DensityPerDie)
density_table = (1, Gb4) ∷ (2, Gb8) ∷ (3, Gb12) ∷ (4, Gb16) ∷ (5, Gb24) ∷ (6, Gb32) ∷ (7, Gb48) ∷ (8, Gb64) ∷ []

unfoldable pub density_of : ℕ → Answer DensityPerDie
density_of code = meant 3 density_table code

-- field 4, byte 4, bits 7-5: package and dies
abbrev pub packed : PackageType → (dies : ℕ) → Package
packed p dies = record { package_type = p; die_count = dies }

abbrev pub package_table : List (ℕ × Package)
package_table =
    (0, packed Monolithic 1) ∷ (1, packed DualDie 2)
    ∷ (2, packed ThreeDs 2) ∷ (3, packed ThreeDs 4) ∷ (4, packed ThreeDs 8) ∷ (5, packed ThreeDs 16) ∷ []

unfoldable pub package_of : ℕ → Answer Package
package_of code = meant 4 package_table code

-- field 5, byte 6, bits 7-5: I/O width
abbrev pub io_width_table : List (ℕ × IoWidth)
io_width_table = (0, X4) ∷ (1, X8) ∷ (2, X16) ∷ (3, X32) ∷ []

unfoldable pub io_width_of : ℕ → Answer IoWidth
io_width_of code = meant 5 io_width_table code

-- field 6, byte 7, bits 7-5: bank groups
abbrev pub bank_group_table : List (ℕ × BankGroups)
bank_group_table = (0, groups.One) ∷ (1, groups.Two) ∷ (2, groups.Four) ∷ (3, groups.Eight) ∷ []

unfoldable pub bank_groups_of : ℕ → Answer BankGroups
bank_groups_of code = meant 6 bank_group_table code

-- field 7, byte 7, bits 2-0: banks per group
abbrev pub banks_table : List (ℕ × BanksPerBankGroup)
banks_table = (0, banks.One) ∷ (1, banks.Two) ∷ (2, banks.Four) ∷ []

unfoldable pub banks_of : ℕ → Answer BanksPerBankGroup
banks_of code = meant 7 banks_table code

-- field 8, byte 235, bits 2-0: bus width
abbrev pub bus_width_table : List (ℕ × ℕ)
bus_width_table = (0, 8) ∷ (1, 16) ∷ (2, 32) ∷ (3, 64) ∷ []

unfoldable pub bus_width_of : ℕ → Answer ℕ
bus_width_of code = meant 8 bus_width_table code

-- field 9, byte 235, bits 7-5: channels
abbrev pub channel_table : List (ℕ × ℕ)
channel_table = (0, 1) ∷ (1, 2) ∷ (2, 4) ∷ (3, 8) ∷ []

unfoldable pub channels_of : ℕ → Answer ℕ
channels_of code = meant 9 channel_table code

-- The numbers that the cases stand for.
abbrev pub device_code : DeviceType → ℕ
device_code Ddr3 = 0x0B
device_code Ddr4 = 0x0C
device_code Ddr5 = 0x12
device_code Lpddr5 = 0x13

abbrev pub module_code : ModuleType → ℕ
module_code Rdimm = 1
module_code Udimm = 2
module_code Sodimm = 3
module_code Lrdimm = 4
module_code Cudimm = 5
module_code Csoudimm = 6
module_code Mrdimm = 7
module_code Camm2 = 8
module_code Ddimm = 10
module_code SolderDown = 11

abbrev pub gigabits_in : DensityPerDie → ℕ
gigabits_in Gb4 = 4
gigabits_in Gb8 = 8
gigabits_in Gb12 = 12
gigabits_in Gb16 = 16
gigabits_in Gb24 = 24
gigabits_in Gb32 = 32
gigabits_in Gb48 = 48
gigabits_in Gb64 = 64

abbrev pub bits_in : IoWidth → ℕ
bits_in X4 = 4
bits_in X8 = 8
bits_in X16 = 16
bits_in X32 = 32

abbrev pub groups_in : BankGroups → ℕ
groups_in groups.One = 1
groups_in groups.Two = 2
groups_in groups.Four = 4
groups_in groups.Eight = 8

abbrev pub banks_in : BanksPerBankGroup → ℕ
banks_in banks.One = 1
banks_in banks.Two = 2
banks_in banks.Four = 4

-- as in the report table's row of code 9
abbrev pub package_code : PackageType → ℕ
package_code Monolithic = 1
package_code DualDie = 2
package_code ThreeDs = 3
