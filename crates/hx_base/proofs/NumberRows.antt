-- Numbers of few bits at both ends, with the sign and without.
use Rattle.std.proofs.Common.{◌≡◌, ◌-◌, ◌^◌, true, false, refl}
use Rattle.std.specs.Prelude.{pos, negsuc}
use Rattle.hx_base.specs.Memory.{round_up}
use Rattle.hx_base.specs.Numbers.{wrap}

-- ---- one bit

unsigned_1_most : wrap (pos 1) 1 false ≡ pos 1
unsigned_1_most = refl

unsigned_1_above : wrap (pos 2) 1 false ≡ pos 0
unsigned_1_above = refl

unsigned_1_below : wrap (negsuc 0) 1 false ≡ pos 1
unsigned_1_below = refl

signed_1_most : wrap (pos 0) 1 true ≡ pos 0
signed_1_most = refl

signed_1_above : wrap (pos 1) 1 true ≡ negsuc 0
signed_1_above = refl

signed_1_least : wrap (negsuc 0) 1 true ≡ negsuc 0
signed_1_least = refl

signed_1_below : wrap (negsuc 1) 1 true ≡ pos 0
signed_1_below = refl

-- ---- eight bits

unsigned_8_most : wrap (pos 255) 8 false ≡ pos 255
unsigned_8_most = refl

unsigned_8_above : wrap (pos 256) 8 false ≡ pos 0
unsigned_8_above = refl

unsigned_8_below : wrap (negsuc 0) 8 false ≡ pos 255
unsigned_8_below = refl

signed_8_most : wrap (pos 127) 8 true ≡ pos 127
signed_8_most = refl

signed_8_above : wrap (pos 128) 8 true ≡ negsuc 127
signed_8_above = refl

signed_8_least : wrap (negsuc 127) 8 true ≡ negsuc 127
signed_8_least = refl

signed_8_below : wrap (negsuc 128) 8 true ≡ pos 127
signed_8_below = refl

-- ---- 63 bits

unsigned_63_most : wrap (pos (2 ^ 63 - 1)) 63 false ≡ pos (2 ^ 63 - 1)
unsigned_63_most = refl

unsigned_63_above : wrap (pos (2 ^ 63)) 63 false ≡ pos 0
unsigned_63_above = refl

unsigned_63_below : wrap (negsuc 0) 63 false ≡ pos (2 ^ 63 - 1)
unsigned_63_below = refl

signed_63_most : wrap (pos (2 ^ 62 - 1)) 63 true ≡ pos (2 ^ 62 - 1)
signed_63_most = refl

signed_63_above : wrap (pos (2 ^ 62)) 63 true ≡ negsuc (2 ^ 62 - 1)
signed_63_above = refl

signed_63_least : wrap (negsuc (2 ^ 62 - 1)) 63 true ≡ negsuc (2 ^ 62 - 1)
signed_63_least = refl

signed_63_below : wrap (negsuc (2 ^ 62)) 63 true ≡ pos (2 ^ 62 - 1)
signed_63_below = refl

-- ---- 64 bits

unsigned_64_most : wrap (pos (2 ^ 64 - 1)) 64 false ≡ pos (2 ^ 64 - 1)
unsigned_64_most = refl

unsigned_64_above : wrap (pos (2 ^ 64)) 64 false ≡ pos 0
unsigned_64_above = refl

unsigned_64_below : wrap (negsuc 0) 64 false ≡ pos (2 ^ 64 - 1)
unsigned_64_below = refl

signed_64_most : wrap (pos (2 ^ 63 - 1)) 64 true ≡ pos (2 ^ 63 - 1)
signed_64_most = refl

signed_64_above : wrap (pos (2 ^ 63)) 64 true ≡ negsuc (2 ^ 63 - 1)
signed_64_above = refl

signed_64_least : wrap (negsuc (2 ^ 63 - 1)) 64 true ≡ negsuc (2 ^ 63 - 1)
signed_64_least = refl

signed_64_below : wrap (negsuc (2 ^ 63)) 64 true ≡ pos (2 ^ 63 - 1)
signed_64_below = refl

-- ---- numbers that no host type holds

unsigned_64_far : wrap (negsuc (2 ^ 200)) 64 false ≡ pos (2 ^ 64 - 1)
unsigned_64_far = refl

signed_64_far : wrap (pos (2 ^ 200 - 1)) 64 true ≡ negsuc 0
signed_64_far = refl

-- ---- multiples

round_up_1 : round_up 7 1 ≡ 7
round_up_1 = refl

round_up_last : round_up (2 ^ 64 - 17) 16 ≡ 2 ^ 64 - 16
round_up_last = refl
