-- A book of either kind.
use Rattle.std.specs.Prelude.{ℕ, List, [], Ok, Err, Result}
use Rattle.book.specs.Meaning.{Contents, put_number}
use Rattle.book.specs.declared.refusal.PutRefusal.{PutRefusal}
use Rattle.memory.specs.Fram.{fram_contents}
use Rattle.memory.specs.Page.{page_contents}
use Rattle.memory.specs.FramBook as fram
use Rattle.memory.specs.PageBook as page
use Rattle.cuts.specs.declared.kinds.AnyBook.{AnyBook}
use Rattle.cuts.specs.declared.kinds.AnyBook.TheVariants.{Fram, Page}
use Rattle.cuts.specs.declared.kinds.Kind.{Kind}
use Rattle.cuts.specs.declared.kinds.Kind.TheVariants as kind

abbrev pub contents_of : AnyBook → Contents
contents_of (Fram b) = fram.contents_of b
contents_of (Page b) = page.contents_of b

abbrev pub bytes_of : AnyBook → List ℕ
bytes_of (Fram b) = fram.bytes_of b
bytes_of (Page b) = page.bytes_of b

abbrev pub lender_of : AnyBook → ℕ
lender_of (Fram b) = fram.lender_of b
lender_of (Page b) = page.lender_of b

-- what an area holds for a book of a kind, as it is read anew
abbrev pub contents_in : Kind → List ℕ → Contents
contents_in kind.Fram area = fram_contents area
contents_in kind.Page area = page_contents area []

-- the number of a put's refusal, 0 where it was taken
abbrev pub answer_number : Result (Unit {0}) PutRefusal → ℕ
answer_number (Ok u) = 0
answer_number (Err e) = put_number e
