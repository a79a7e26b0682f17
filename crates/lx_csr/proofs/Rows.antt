-- The rows worked by hand.
use Rattle.std.proofs.Common.{refl}
use Rattle.lx_csr.specs.CWords.{c_words}
use Rattle.lx_csr.specs.Names.{bare}
use Rattle.lx_csr.specs.Collected.{top_parts}
use Rattle.lx_csr.specs.Defined.{header_names}
use Rattle.lx_csr.specs.Mapped.{map_of}
use Rattle.lx_csr.specs.Worked.{CollectionsAreWorked, FaultsAreWorked, MapsAreWorked, NamesAreWorked, WordsAreWorked}

pub names_rows : NamesAreWorked
unfolding bare top_parts header_names map_of c_words
names_rows = record {
  one = refl;
  two = refl;
  none = refl;
  underscores = refl;
  digit = refl;
}

pub words_rows : WordsAreWorked
unfolding bare top_parts header_names map_of c_words
words_rows = record {
  byte = refl;
  whole = refl;
  more = refl;
  most = refl;
}

pub maps_rows : MapsAreWorked
unfolding bare top_parts header_names map_of c_words
maps_rows = record {
  timer = refl;
  kind = refl;
  seen = refl;
  other_numbers = refl;
  wanted = refl;
  interrupts = refl;
  sound = refl;
}

pub collections_rows : CollectionsAreWorked
unfolding bare top_parts header_names map_of c_words
collections_rows = record {
  gathered = refl;
  follow = refl;
  numbers = refl;
  interrupts = refl;
  sound = refl;
  alone = refl;
  no_constants = refl;
}

pub faults_rows : FaultsAreWorked
unfolding bare top_parts header_names map_of c_words
faults_rows = record {
  top = refl;
  folded = refl;
  underscores = refl;
  other = refl;
  constant = refl;
  base = refl;
  size = refl;
  keyword = refl;
  interrupts = refl;
  numbers = refl;
  apart = refl;
  cut = refl;
  below = refl;
  touching = refl;
  alone = refl;
}
