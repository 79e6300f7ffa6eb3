mod Givens
