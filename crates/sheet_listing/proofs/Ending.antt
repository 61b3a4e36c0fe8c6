-- Ending: what a call leaves, once all of the text is written: text that fits, and text that does not. Assumes nothing.
use Prim.Native.Nat.{ℕ}
use mathlib.Core.Bool.{Bool, true, false, cond}
use mathlib.Core.Path.{◌≡◌, refl}
use mathlib.Core.List.{List}
use Rattle.sheet_writer.specs.inner.Written.{Put}
use Rattle.sheet_writer.proofs.Clearing.{Ended, put_ended}
use Rattle.sheet_listing.specs.Listing.{listed, listed_in}
use Rattle.sheet_listing.specs.inner.Written.{Finished}

ended-listed : (b : Bool) {before after text : List ℕ} {at : ℕ} → Ended before after text at b → listed (cond b at 0) after ≡ listed_in text before
unfolding listed_in
ended-listed true e = rw (← e.told, e.place refl, e.bytes)
ended-listed false e = rw (← e.told, e.bytes)

pub finished-listed : {before mid after text : List ℕ} {at r : ℕ} → Put before mid 0 text at → Finished mid after at r → listed r after ≡ listed_in text before
finished-listed p f = rw f.length' (ended-listed f.fit (put_ended p f.fits))
