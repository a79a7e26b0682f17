-- The rows worked by hand.
use Rattle.std.proofs.Common.{refl}
use Rattle.std.specs.Fmt.{digits}
use Rattle.lx_text.specs.Hex.{hex_text}
use Rattle.lx_csr.specs.Names.{bare}
use Rattle.lx_csr.specs.Collected.{top_parts}
use Rattle.lx_csr.specs.Mapped.{map_of}
use Rattle.lx_export.specs.Csv.{bank_row, constant_row, csv_text, region_row, register_row}
use Rattle.lx_export.specs.Json.{json_text}
use Rattle.lx_export.specs.Ld.{ld_text, memory_line}
use Rattle.lx_export.specs.Listing.{bank_line, interrupt_line, listing_text, region_line, register_line}
use Rattle.lx_export.specs.Worked.{CsvIsWorked, JsonIsWorked, LdIsWorked, ListingIsWorked}
use Rattle.json.specs.Print.{escape_byte}

pub csv_rows : CsvIsWorked
unfolding digits hex_text bare top_parts map_of bank_row constant_row csv_text region_row register_row
csv_rows = record {
  timer = refl;
  two_words = refl;
  constants = refl;
  alone = refl;
}

pub json_rows : JsonIsWorked
unfolding digits bare top_parts map_of json_text escape_byte
json_rows = record {
  two_words = refl;
  constants = refl;
  alone = refl;
}

pub ld_rows : LdIsWorked
unfolding digits hex_text ld_text memory_line
ld_rows = record {
  timer = refl;
  sized = refl;
  alone = refl;
}

pub listing_rows : ListingIsWorked
unfolding digits hex_text bare top_parts map_of bank_line interrupt_line listing_text region_line register_line
listing_rows = record {
  timer = refl;
  moved = refl;
  two_words = refl;
  alone = refl;
}
