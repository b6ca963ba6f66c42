-- A FRAM book, seen by what a caller knows of it.
use Rattle.std.specs.Prelude.{ℕ, List}
use Rattle.book.specs.Meaning.{Contents}
use Rattle.memory.specs.declared.fram.FramBook.{FramBook}
use Rattle.memory.specs.Fram.{fram_contents}

-- the bytes of the area that it is over
abbrev pub bytes_of : FramBook → List ℕ
bytes_of b = b.area.bytes.now

-- the ghost name of the borrowed area
abbrev pub lender_of : FramBook → ℕ
lender_of b = b.area.bytes.ghost_name

-- what it holds
abbrev pub contents_of : FramBook → Contents
contents_of b = fram_contents (bytes_of b)
