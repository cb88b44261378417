-- What the bytes of one record hold.
use Rattle.std.specs.Prelude.{ℕ, ◌+◌, ◌*◌, not, List, ℤ, Option, ◌==◌, slice_index}
use Rattle.std.specs.List.{position_from}
use Rattle.std.specs.Int.{w32, w64, cast_signed}
use Rattle.planfile.specs.declared.fields.Price.{Price}
use Rattle.planfile.specs.declared.progress.FileKind.{FileKind}
use Rattle.planfile.specs.declared.progress.FileKind.TheVariants.{Money, Ranked}

-- the place of the first byte that is not zero, where the list begins at place k
unfoldable pub nonzero : ℕ → List ℕ → Option ℕ
nonzero k bs = position_from (λ b. not (b == 0)) k bs

-- bytes 4 to 7, low byte first, in two's complement
unfoldable pub strain : List ℕ → ℤ
strain r = cast_signed w32 (slice_index r 4 + slice_index r 5 * 256 + slice_index r 6 * 65536 + slice_index r 7 * 16777216)

-- bytes 8 to 15, low byte first, in two's complement
unfoldable pub money : List ℕ → ℤ
money r =
    cast_signed w64 (slice_index r 8 + slice_index r 9 * 256 + slice_index r 10 * 65536 + slice_index r 11 * 16777216
    + slice_index r 12 * 4294967296 + slice_index r 13 * 1099511627776 + slice_index r 14 * 281474976710656 + slice_index r 15 * 72057594037927936)

abbrev pub price_of : List ℕ → Price
price_of r = record { strain = strain r; money = money r }

-- how many bytes of a quote from byte 3 on must be zero: byte 3, and in a money file the four of the strain
abbrev pub spare_bytes : FileKind → ℕ
spare_bytes Money = 5
spare_bytes Ranked = 1
