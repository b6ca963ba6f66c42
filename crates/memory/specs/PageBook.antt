-- A page book, seen by what a caller knows of it.
use Rattle.std.specs.Prelude.{ℕ, List}
use Rattle.sampling.specs.declared.piece.Piece.{Piece}
use Rattle.book.specs.Meaning.{Contents}
use Rattle.memory.specs.declared.page.PageBook.{PageBook}
use Rattle.memory.specs.Page.{page_contents}

-- the bytes of the area that it is over
abbrev pub bytes_of : PageBook → List ℕ
bytes_of b = b.area.bytes.now

-- the ghost name of the borrowed area
abbrev pub lender_of : PageBook → ℕ
lender_of b = b.area.bytes.ghost_name

-- the pieces that wait; there is a blank slot for each
abbrev pub waiting_in : PageBook → List Piece
waiting_in b = b.waiting.items

-- what it holds
abbrev pub contents_of : PageBook → Contents
contents_of b = page_contents (bytes_of b) (waiting_in b)
